-- How answers cross to C: one 64-bit number. Its upper half is 0 or the refusal's number, its lower half the value's
-- 32 bits or what the refusal names. The header says the same in words.
-- Assumes nothing.
use Rattle.code.specs.declared.Stopped.{Stopped}
use Rattle.op.specs.declared.Shape.{Shape}
use Rattle.std.specs.Prelude.{cond, List, ℕ, leb, length, Ok, Err, Result, true, false, Bool, ℤ}
use Rattle.op.specs.Names.{name_of}
use Rattle.op.specs.Opcodes.{last_opcode, known}
use Rattle.op.specs.Refusals.{half, answer_of}
use Rattle.op.specs.Shapes.{shape_number, size_of}
use Rattle.op.specs.declared.Refusal.{Refusal}
use Rattle.op.specs.declared.Refusal.TheVariants.{UnknownOpcode, Full, TooLarge}
use Rattle.op.specs.declared.Table.TheVariants.{Text}
use Rattle.code.specs.Bytes.{unsigned, front}
use Rattle.code.specs.Reading.{count_of}
use Rattle.code.specs.Tables.{code_limit}

-- a refusal
abbrev pub refused : Refusal → ℕ
refused r = answer_of r

-- a shape: its number
abbrev pub shape_answer : Result Shape Refusal → ℕ
shape_answer (Ok shape) = shape_number shape
shape_answer (Err r) = refused r

-- an effect: its two's complement in 32 bits
abbrev pub net_answer : Result ℤ Refusal → ℕ
net_answer (Ok z) = unsigned half z
net_answer (Err r) = refused r

-- 1 for dead, 0 for live
abbrev pub dead_answer : Result Bool Refusal → ℕ
dead_answer (Ok true) = 1
dead_answer (Ok false) = 0
dead_answer (Err r) = refused r

-- a depth
abbrev pub depth_answer : Result ℕ Refusal → ℕ
depth_answer (Ok d) = d
depth_answer (Err r) = refused r

-- an instruction's size, with so many keyword names
abbrev pub size_answer : Result Shape Refusal → ℕ → ℕ
size_answer (Ok shape) names = size_of shape names
size_answer (Err r) names = refused r

-- the length of an opcode's name: 1, then 18 where the room is too small
unfoldable pub name_answer : ℕ → ℕ → ℕ
name_answer k room =
    cond (known k) (cond (leb (length (name_of k)) room) (length (name_of k)) (refused (Full Text)))
    (refused UnknownOpcode)

-- the cells that it is written to
unfoldable pub name_cells : ℕ → List ℕ → List ℕ
name_cells k out = cond (known k) (cond (leb (length (name_of k)) (length out)) (front (name_of k) out) out) out

-- how many instructions a code has, or its first fault
abbrev pub counted : Result ℕ Stopped → ℕ
counted (Ok n) = n
counted (Err stopped) = refused stopped.refusal

-- 10 first
unfoldable pub count_answer : List ℕ → ℕ
count_answer code = cond (leb (length code) code_limit) (counted (count_of last_opcode code)) (refused TooLarge)
