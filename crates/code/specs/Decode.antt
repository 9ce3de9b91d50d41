-- The instruction at the front of some bytes: R13 to R15.
-- The table of opcodes is a parameter, told by its last opcode, `last`.
-- Assumes nothing.
use Rattle.op.specs.declared.Refusal.{Refusal}
use Rattle.std.specs.Prelude.{cond, List, [], ◌∷◌, ℕ, ◌-◌, ◌*◌, leb, length, get_or, take, drop, Ok, Err, Some, None, Result, Option}
use Rattle.op.specs.Opcodes.{known_up_to}
use Rattle.op.specs.Shapes.{shape_of, size_of}
use Rattle.op.specs.declared.Operand.{Operand}
use Rattle.op.specs.declared.Operand.TheVariants as O
use Rattle.op.specs.declared.Refusal.TheVariants.{UnknownOpcode, UnknownOpcodeAt, CutShort}
use Rattle.op.specs.declared.Shape.{Shape}
use Rattle.op.specs.declared.Shape.TheVariants as S
use Rattle.code.specs.Bytes.{word_at, signed}
use Rattle.code.specs.declared.Instr.{Instr}

-- "its opcode, then its operands in shape order": the operand in the bytes of an instruction, whose first is the opcode
unfoldable pub operand_in : Shape → List ℕ → Operand
operand_in S.None u = O.None
operand_in S.U8 u = O.U8 (get_or u 1 0)
operand_in S.I8 u = O.I8 (signed 256 (get_or u 1 0))
operand_in S.U16 u = O.U16 (word_at u 1)
operand_in S.Offset u = O.Offset (signed 65536 (word_at u 1))
operand_in S.U8U8 u = O.U8U8 (get_or u 1 0) (get_or u 2 0)
operand_in S.U16U8 u = O.U16U8 (word_at u 1) (get_or u 3 0)
operand_in S.U16U16 u = O.U16U16 (word_at u 1) (word_at u 3)
operand_in S.U16U8U8 u = O.U16U8U8 (word_at u 1) (get_or u 3 0) (get_or u 4 0)
operand_in S.CallKw u = O.CallKw (get_or u 1 0) (get_or u 2 0)
operand_in S.CallAttrKw u = O.CallAttrKw (word_at u 1) (get_or u 3 0) (get_or u 4 0)
operand_in S.U16U16U8 u = O.U16U16U8 (word_at u 1) (word_at u 3) (get_or u 5 0)

-- the count n of keyword names in an operand, 0 where there is none
abbrev pub names_in : Operand → ℕ
names_in O.None = 0
names_in (O.U8 a) = 0
names_in (O.I8 z) = 0
names_in (O.U16 a) = 0
names_in (O.Offset z) = 0
names_in (O.U8U8 a b) = 0
names_in (O.U16U8 a b) = 0
names_in (O.U16U16 a b) = 0
names_in (O.U16U8U8 a b c) = 0
names_in (O.CallKw positional names) = names
names_in (O.CallAttrKw attribute positional names) = names
names_in (O.U16U16U8 a b c) = 0

-- the size of an instruction of a shape, names included; 0 stands for bytes that are not there
abbrev pub size_by_names : Shape → List ℕ → ℕ
size_by_names s u = size_of s (names_in (operand_in s u))

-- what stands at an offset: an instruction of so many bytes, nothing at or past the code's end, or a fault
abbrev pub Step : Type 0
Step = Result (Option Instr) Refusal

abbrev pub instr : (opcode : ℕ) (operand : Operand) (size : ℕ) → Instr
instr opcode operand size = record { opcode = opcode; operand = operand; size = size }

-- an instruction of a shape at the front of u, the code from an offset on; 22, "an instruction is cut short", where
-- its size exceeds what is there
unfoldable pub step_in : ℕ → Shape → List ℕ → Step
step_in at s u =
    cond (leb (size_by_names s u) (length u)) (Ok (Some (instr (get_or u 0 0) (operand_in s u) (size_by_names s u))))
    (Err (CutShort at))

-- 1, "if read, with its offset"
abbrev pub whole : ℕ → Result Shape Refusal → List ℕ → Step
whole at (Ok s) u = step_in at s u
whole at (Err r) u = Err (UnknownOpcodeAt at)

-- an opcode's shape, or 1 above the table's last opcode
unfoldable pub shape_up_to : ℕ → ℕ → Result Shape Refusal
shape_up_to last k = cond (known_up_to last k) (shape_of k) (Err UnknownOpcode)

-- the instruction at the front of u, the code from an offset on; the offset only names a fault's place (R14)
unfoldable pub decode : ℕ → ℕ → List ℕ → Step
decode last at [] = Ok None
decode last at (k ∷ u) = whole at (shape_up_to last k) (k ∷ u)

-- the size of the instruction at an offset; 0 where none stands (R14)
abbrev pub size_in : Step → ℕ
size_in (Ok (Some i)) = i.size
size_in (Ok None) = 0
size_in (Err r) = 0

-- the bytes of the keyword names, the last of an instruction
abbrev pub names_by : Step → List ℕ → List ℕ
names_by (Ok (Some i)) u = take (2 * names_in i.operand) (drop (i.size - 2 * names_in i.operand) u)
names_by (Ok None) u = []
names_by (Err r) u = []

-- "empty on a fault or without names" (R15)
unfoldable pub names_at : ℕ → List ℕ → List ℕ
names_at last u = names_by (decode last 0 u) u
