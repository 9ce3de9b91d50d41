-- What a step of the decoder tells, and the writer's answer for an operand given as numbers.
-- Assumes nothing.
use Rattle.code.specs.Decode.{Step}
use Rattle.std.specs.Prelude.{◌≡◌, cond, List, [], ◌∷◌, ℕ, ◌+◌, ◌-◌, ◌*◌, leb, length, Some, None, Option, Ok, Err, Result}
use Rattle.op.specs.Opcodes.{known}
use Rattle.op.specs.Shapes.{shape_number, operand_shape}
use Rattle.op.specs.declared.Operand.{Operand}
use Rattle.op.specs.declared.Operand.TheVariants as O
use Rattle.op.specs.declared.Refusal.{Refusal}
use Rattle.op.specs.declared.Refusal.TheVariants.{UnknownOpcode, WrongShape, TooManyKeywords}
use Rattle.code.specs.Bytes.{unsigned}
use Rattle.code.specs.Decode.{names_in}
use Rattle.code.specs.Encode.{encode, written_of, filled}
use Rattle.api.specs.Answers.{refused}
use Rattle.api.specs.Told.{Told, numbers, nothing, refusal}
use Rattle.api.specs.declared.Values.{Values}

-- three values
abbrev pub values : ℕ → ℕ → ℕ → Values
values a b c = record { a = a; b = b; c = c }

-- an operand's values in byte order, without the keyword count: signed ones by their bits, 0 where there is none
abbrev pub values_of : Operand → Values
values_of O.None = values 0 0 0
values_of (O.U8 a) = values a 0 0
values_of (O.I8 z) = values (unsigned 256 z) 0 0
values_of (O.U16 a) = values a 0 0
values_of (O.Offset z) = values (unsigned 65536 z) 0 0
values_of (O.U8U8 a b) = values a b 0
values_of (O.U16U8 a b) = values a b 0
values_of (O.U16U16 a b) = values a b 0
values_of (O.U16U8U8 a b c) = values a b c
values_of (O.CallKw positional n) = values positional 0 0
values_of (O.CallAttrKw attribute positional n) = values attribute positional 0
values_of (O.U16U16U8 a b c) = values a b c

-- the eight cells of an instruction: opcode, size, shape, a, b, c, n, and where the names' 2n bytes stand, its last
abbrev pub instruction : ℕ → ℕ → Operand → ℕ → List ℕ
instruction at k o size =
    k ∷
    size ∷
    shape_number (operand_shape o) ∷
    (values_of o).a ∷
    (values_of o).b ∷
    (values_of o).c ∷
    names_in o ∷
    (at + size - 2 * names_in o) ∷ []

-- a step from an offset
abbrev pub step_told : ℕ → Step → Told
step_told at (Ok (Some i)) = numbers (instruction at i.opcode i.operand i.size)
step_told at (Ok None) = nothing
step_told at (Err r) = refusal r

-- why n names aren't written where there is no operand for them: 1, 7, then 2
abbrev pub unwritten : ℕ → ℕ → Refusal
unwritten k n = cond (known k) (cond (leb n 255) WrongShape TooManyKeywords) UnknownOpcode

-- the writer's answer for a given operand, n names and so many bytes of room
abbrev pub written_given : ℕ → Option Operand → ℕ → ℕ → Result ℕ Refusal
written_given k (Some o) n room = written_of k o n room
written_given k None n room = Err (unwritten k n)

-- the bytes that were lent to it
abbrev pub filled_given : ℕ → Option Operand → List ℕ → List ℕ → List ℕ
filled_given k (Some o) names out = filled (written_of k o (length names) (length out)) (encode k o names) out
filled_given k None names out = out

-- the instruction's size
abbrev pub written_answer : Result ℕ Refusal → ℕ
written_answer (Ok size) = size
written_answer (Err r) = refused r

-- the answer, and every byte that was lent
pub record WritesGiven (k : ℕ) (g : Option Operand) (names out : List ℕ) (answer : ℕ) (out' : List ℕ) : Type 0 where
  pub answers : answer ≡ written_answer (written_given k g (length names) (length out))
  pub cells : out' ≡ filled_given k g names out
