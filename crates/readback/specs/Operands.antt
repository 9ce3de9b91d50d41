-- What the whole numbers of a line's operand column say, by the opcode's shape: "the operands of its shape, each in the
-- range of its field; for keyword calls the count is that of the names behind it" (R68).
-- Assumes nothing.
use Rattle.std.specs.Prelude.{List, [], ◌∷◌, ℕ, ltb, eqb, ℤ, pos, negsuc, length, drop, None, Option, Some}
use Rattle.std.specs.Int.Signed.{mag}
use Rattle.op.specs.declared.Operand.{Operand}
use Rattle.op.specs.declared.Operand.TheVariants as O
use Rattle.op.specs.declared.Shape.{Shape}
use Rattle.op.specs.declared.Shape.TheVariants as S
use Rattle.text.specs.Reading.{only_if}

-- an operand, and the keyword names behind it
pub record Said : Type 0 where
  pub operand : Operand
  pub names : List ℕ

abbrev pub said : Operand → List ℕ → Said
said o names = record { operand = o; names = names }

-- what is made of something, where it is there
unfoldable pub and_then : {A B : Type 0} → Option A → (A → Option B) → Option B
and_then None f = None
and_then (Some a) f = f a

-- the first number from a place on
abbrev pub first : List ℤ → Option ℤ
first [] = None
first (z ∷ zs) = Some z

-- a number in the range of an unsigned field of so many values
abbrev pub plain_in : ℕ → ℤ → Option ℕ
plain_in values (pos n) = only_if (ltb n values) n
plain_in values (negsuc n) = None

-- a number in the range of a signed field: so many values below zero, and as many from zero on
abbrev pub signed_in : ℕ → ℤ → Option ℤ
signed_in half z = only_if (ltb (mag z) half) z

-- the number at a place, in the range of its field
unfoldable pub plain_at : (values i : ℕ) → List ℤ → Option ℕ
plain_at values i zs = and_then (first (drop i zs)) (plain_in values)

unfoldable pub signed_at : (half i : ℕ) → List ℤ → Option ℤ
signed_at half i zs = and_then (first (drop i zs)) (signed_in half)

abbrev pub byte : ℕ → List ℤ → (ℕ → Option Said) → Option Said
byte i zs f = and_then (plain_at 256 i zs) f

abbrev pub word : ℕ → List ℤ → (ℕ → Option Said) → Option Said
word i zs f = and_then (plain_at 65536 i zs) f

-- no number behind the first n
unfoldable pub ends : ℕ → List ℤ → Operand → Option Said
ends n zs o = only_if (eqb (length zs) n) (said o [])

-- keyword names: each a word
unfoldable pub words : List ℤ → Option (List ℕ)
words [] = Some []
words (z ∷ zs) = and_then (plain_in 65536 z) (λ w. and_then (words zs) (λ ws. Some (w ∷ ws)))

-- behind the first i numbers stand the names, n of them
unfoldable pub named : (i n : ℕ) → List ℤ → Operand → Option Said
named i n zs o = and_then (words (drop i zs)) (λ ws. only_if (eqb (length ws) n) (said o ws))

-- "operands in byte order" (R55), the fields by their places (R68)
unfoldable pub operand_for : Shape → List ℤ → Option Said
operand_for S.None zs = ends 0 zs O.None
operand_for S.U8 zs = byte 0 zs (λ a. ends 1 zs (O.U8 a))
operand_for S.I8 zs = and_then (signed_at 128 0 zs) (λ z. ends 1 zs (O.I8 z))
operand_for S.U16 zs = word 0 zs (λ a. ends 1 zs (O.U16 a))
operand_for S.Offset zs = and_then (signed_at 32768 0 zs) (λ z. ends 1 zs (O.Offset z))
operand_for S.U8U8 zs = byte 0 zs (λ a. byte 1 zs (λ b. ends 2 zs (O.U8U8 a b)))
operand_for S.U16U8 zs = word 0 zs (λ a. byte 1 zs (λ b. ends 2 zs (O.U16U8 a b)))
operand_for S.U16U16 zs = word 0 zs (λ a. word 1 zs (λ b. ends 2 zs (O.U16U16 a b)))
operand_for S.U16U8U8 zs = word 0 zs (λ a. byte 1 zs (λ b. byte 2 zs (λ c. ends 3 zs (O.U16U8U8 a b c))))
operand_for S.CallKw zs = byte 0 zs (λ positional. byte 1 zs (λ n. named 2 n zs (O.CallKw positional n)))
operand_for S.CallAttrKw zs =
    word 0 zs (λ attribute. byte 1 zs (λ positional. byte 2 zs
    (λ n. named 3 n zs (O.CallAttrKw attribute positional n))))
operand_for S.U16U16U8 zs = word 0 zs (λ a. word 1 zs (λ b. byte 2 zs (λ c. ends 3 zs (O.U16U16U8 a b c))))
