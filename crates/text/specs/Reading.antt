-- A line of a listing read back: the row that a text says, where it is one. The rules only write them (R55).
-- Assumes nothing.
use Rattle.std.specs.Prelude.{Bool, true, false, cond, not, ◌&&◌, List, [], ◌∷◌, ℕ, suc, ◌-◌, eqb, ℤ, pos, negsuc, None, Option, Some}
use Rattle.op.specs.Names.{name_in}
use Rattle.op.specs.Opcodes.{table, known}
use Rattle.op.specs.Opcodes.{Row as Opcode}
use Rattle.text.specs.Number.{natural, value}
use Rattle.text.specs.Parts.{split}
use Rattle.text.specs.Row.{Row, dash}

-- two texts are the same
abbrev pub same : List ℕ → List ℕ → Bool
same [] [] = true
same [] (y ∷ t) = false
same (x ∷ s) [] = false
same (x ∷ s) (y ∷ t) = eqb x y && same s t

-- the place of a text among the names of opcodes, or their number where it is none of them
abbrev pub place : List Opcode → List ℕ → ℕ
place [] t = 0
place (o ∷ os) t = let r = place os t in cond (same (name_in o) t) 0 (suc r)

-- the opcode that a text names; one past the last where it names none
unfoldable pub opcode_of : List ℕ → ℕ
opcode_of t = place table t

-- something, where a test passes
abbrev pub only_if : {A : Type 0} → Bool → A → Option A
only_if true a = Some a
only_if false a = None

-- a whole number: digits, or a minus sign and the digits of a number above zero
abbrev pub positive : List ℕ → Option ℤ
positive t = only_if (natural t) (pos (value t))

abbrev pub negative : List ℕ → Option ℤ
negative t = only_if (natural t && not (eqb (value t) 0)) (negsuc (value t - 1))

abbrev pub read_whole : List ℕ → Option ℤ
read_whole [] = None
read_whole (c ∷ t) = cond (eqb c 45) (negative t) (positive (c ∷ t))

-- operands, each a whole number
abbrev pub both : Option ℤ → Option (List ℤ) → Option (List ℤ)
both None zs = None
both (Some z) None = None
both (Some z) (Some zs) = Some (z ∷ zs)

abbrev pub read_all : List (List ℕ) → Option (List ℤ)
read_all [] = Some []
read_all (t ∷ ts) = both (read_whole t) (read_all ts)

abbrev pub read_operands : List ℕ → Option (List ℤ)
read_operands t = cond (same t dash) (Some []) (read_all (split 44 t))

-- a target, or `-`
abbrev pub present : Option ℤ → Option (Option ℤ)
present None = None
present (Some z) = Some (Some z)

abbrev pub read_target : List ℕ → Option (Option ℤ)
read_target t = cond (same t dash) (Some None) (present (read_whole t))

-- a row, where each field is right
abbrev pub row : Bool → ℕ → Bool → ℕ → Option (List ℤ) → Option (Option ℤ) → Option Row
row false n c o zs z = None
row true n false o zs z = None
row true n true o None z = None
row true n true o (Some zs) None = None
row true n true o (Some zs) (Some z) = Some (record { offset = n; opcode = o; operands = zs; target = z })

abbrev pub read_fields : List (List ℕ) → Option Row
read_fields [] = None
read_fields (a ∷ []) = None
read_fields (a ∷ b ∷ []) = None
read_fields (a ∷ b ∷ c ∷ []) = None
read_fields (a ∷ b ∷ c ∷ d ∷ []) =
    row (natural a) (value a) (known (opcode_of b)) (opcode_of b) (read_operands c) (read_target d)
read_fields (a ∷ b ∷ c ∷ d ∷ e ∷ ts) = None

-- the row that a text says, where it is one
unfoldable pub read_row : List ℕ → Option Row
read_row t = read_fields (split 9 t)
