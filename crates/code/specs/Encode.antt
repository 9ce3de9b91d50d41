-- The bytes of an instruction, and what its writer does: R13, R17.
-- Assumes nothing.
use Rattle.op.specs.declared.Shape.{Shape}
use Rattle.std.specs.Prelude.{◌≡◌, Bool, cond, List, [], ◌∷◌, ◌++◌, ℕ, ◌<◌, leb, eqb, length, Ok, Err, Result}
use Rattle.std.specs.Int.Signed.{mag}
use Rattle.op.specs.Shapes.{shape_number, shape_of, operand_shape, size_of}
use Rattle.op.specs.declared.Operand.{Operand}
use Rattle.op.specs.declared.Operand.TheVariants as O
use Rattle.op.specs.declared.Refusal.{Refusal}
use Rattle.op.specs.declared.Refusal.TheVariants.{UnknownOpcode, WrongShape, TooManyKeywords, Full}
use Rattle.op.specs.declared.Table.TheVariants.{Code}
use Rattle.code.specs.Bytes.{word_bytes, names_bytes, unsigned, front}
use Rattle.code.specs.Decode.{names_in}

-- an operand's bytes in shape order, but for keyword names (R13)
abbrev pub operand_bytes : Operand → List ℕ
operand_bytes O.None = []
operand_bytes (O.U8 a) = a ∷ []
operand_bytes (O.I8 z) = unsigned 256 z ∷ []
operand_bytes (O.U16 a) = word_bytes a
operand_bytes (O.Offset z) = word_bytes (unsigned 65536 z)
operand_bytes (O.U8U8 a b) = a ∷ b ∷ []
operand_bytes (O.U16U8 a b) = word_bytes a ++ b ∷ []
operand_bytes (O.U16U16 a b) = word_bytes a ++ word_bytes b
operand_bytes (O.U16U8U8 a b c) = word_bytes a ++ b ∷ c ∷ []
operand_bytes (O.CallKw positional names) = positional ∷ names ∷ []
operand_bytes (O.CallAttrKw attribute positional names) = word_bytes attribute ++ positional ∷ names ∷ []
operand_bytes (O.U16U16U8 a b c) = word_bytes a ++ word_bytes b ++ c ∷ []

-- "its opcode, then its operands in shape order, then the keyword names" (R13)
unfoldable pub encode : ℕ → Operand → List ℕ → List ℕ
encode k o names = k ∷ operand_bytes o ++ names_bytes names

-- an operand's signed numbers are in their ranges
abbrev pub SignsFit : Operand → Type 0
SignsFit O.None = Unit {0}
SignsFit (O.U8 a) = Unit {0}
SignsFit (O.I8 z) = mag z < 128
SignsFit (O.U16 a) = Unit {0}
SignsFit (O.Offset z) = mag z < 32768
SignsFit (O.U8U8 a b) = Unit {0}
SignsFit (O.U16U8 a b) = Unit {0}
SignsFit (O.U16U16 a b) = Unit {0}
SignsFit (O.U16U8U8 a b c) = Unit {0}
SignsFit (O.CallKw positional names) = Unit {0}
SignsFit (O.CallAttrKw attribute positional names) = Unit {0}
SignsFit (O.U16U16U8 a b c) = Unit {0}

-- an instruction that is well formed: the operand has the opcode's shape, fits, and counts the names
pub record Formed (k : ℕ) (o : Operand) (names : List ℕ) : Type 0 where
  pub shape : shape_of k ≡ Ok (operand_shape o)
  pub signs : SignsFit o
  pub count : names_in o ≡ length names

-- what is refused where a test fails
abbrev pub written_if : Bool → Refusal → Result ℕ Refusal → Result ℕ Refusal
written_if t r w = cond t w (Err r)

-- 7, then 2 for a shape that isn't the opcode's and for a count that isn't the names', then 18; n names, so many bytes of room
abbrev pub written_by : Result Shape Refusal → Operand → ℕ → ℕ → Result ℕ Refusal
written_by (Err r) o n room = Err UnknownOpcode
written_by (Ok s) o n room =
    written_if (leb n 255) TooManyKeywords
    (written_if (eqb (shape_number s) (shape_number (operand_shape o))) WrongShape
    (written_if (eqb (names_in o) n) WrongShape
    (written_if (leb (size_of s n) room) (Full Code)
    (Ok (size_of s n)))))

-- the writer's answer: 1 first (R17)
unfoldable pub written_of : ℕ → Operand → ℕ → ℕ → Result ℕ Refusal
written_of k o n room = written_by (shape_of k) o n room

-- the bytes at the front, or no change
abbrev pub filled : Result ℕ Refusal → List ℕ → List ℕ → List ℕ
filled (Ok z) bytes out = front bytes out
filled (Err r) bytes out = out

-- the writer's answer, and every cell that it was lent (R17)
pub record Writes (k : ℕ) (o : Operand) (names out : List ℕ) (answer : Result ℕ Refusal) (out' : List ℕ) : Type 0 where
  pub answers : answer ≡ written_of k o (length names) (length out)
  pub cells : out' ≡ filled (written_of k o (length names) (length out)) (encode k o names) out
