-- A code read from its start, one instruction behind the other, to its end or its first fault: R14, R18 and R48.
-- Whoever counts, lists or checks instructions, or reads them back, does it through the one definition here,
-- `instructions_in`. The table of opcodes is told by its last opcode, `last`.
-- Assumes nothing.
use Rattle.code.specs.declared.Stopped.{Stopped}
use Rattle.code.specs.Decode.{Step}
use Rattle.std.specs.Prelude.{List, [], ◌∷◌, ◌++◌, map, ℕ, zero, suc, ◌+◌, length, drop, Ok, Err, Some, None, Result, Option}
use Rattle.op.specs.declared.Operand.{Operand}
use Rattle.op.specs.declared.Refusal.{Refusal}
use Rattle.code.specs.Bytes.{words_in}
use Rattle.code.specs.Decode.{decode, names_at}

-- an instruction: opcode, operand and keyword names
pub record Instruction : Type 0 where
  pub opcode : ℕ
  pub operand : Operand
  pub names : List ℕ

abbrev pub instruction : (opcode : ℕ) (operand : Operand) (names : List ℕ) → Instruction
instruction opcode operand names = record { opcode = opcode; operand = operand; names = names }

-- an instruction where it stands, and the bytes that it takes
pub record Spot : Type 0 where
  pub offset : ℕ
  pub what : Instruction
  pub size : ℕ

-- what was read: the instructions in order, the offset where reading stops, and the fault there if it isn't the end
pub record Read : Type 0 where
  pub spots : List Spot
  pub stop : ℕ
  pub fault : Option Refusal

-- one instruction in front of what is read behind it
abbrev pub before : (spot : Spot) (more : Read) → Read
before spot more = record { spots = spot ∷ more.spots; stop = more.stop; fault = more.fault }

-- nothing from an offset on
abbrev pub stops_at : (at : ℕ) (fault : Option Refusal) → Read
stops_at at fault = record { spots = []; stop = at; fault = fault }

-- an instruction of so many bytes at the front of u, the code from an offset on
abbrev pub spot_at : (last at : ℕ) (u : List ℕ) (opcode : ℕ) (operand : Operand) (size : ℕ) → Spot
spot_at last at u opcode operand size =
    record { offset = at; what = instruction opcode operand (words_in (names_at last u)); size = size }

-- what a step adds to what is read behind it; `rest` reads from an offset on
abbrev pub read_by : (last : ℕ) (rest : ℕ → List ℕ → Read) (at : ℕ) (u : List ℕ) (step : Step) → Read
read_by last rest at u (Ok (Some i)) = before (spot_at last at u i.opcode i.operand i.size) (rest (at + i.size) (drop i.size u))
read_by last rest at u (Ok None) = stops_at at None
read_by last rest at u (Err r) = stops_at at (Some r)

-- u, the code from an offset on, of which no more than so many instructions are read
unfoldable pub read_up_to : (last most at : ℕ) (u : List ℕ) → Read
read_up_to last zero at u = stops_at at None
read_up_to last (suc most) at u = let rest = read_up_to last most in read_by last rest at u (decode last at u)

-- the instructions of u, the code from an offset on; each has a byte at least, so that is all of them
unfoldable pub instructions_from : (last at : ℕ) (u : List ℕ) → Read
instructions_from last at u = read_up_to last (length u) at u

-- the instructions of a code (R18, R48)
abbrev pub instructions_in : (last : ℕ) (code : List ℕ) → Read
instructions_in last code = instructions_from last 0 code

-- the offsets that reading comes to: each instruction's, and where it stops
abbrev pub places_in : Read → List ℕ
places_in r = map (λ (spot : Spot). spot.offset) r.spots ++ (r.stop ∷ [])

-- so many instructions, to the end or to a fault
abbrev pub count_by : (n : ℕ) (fault : Option Refusal) → Result ℕ Stopped
count_by n None = Ok n
count_by n (Some r) = Err (record { count = n; refusal = r })

-- the instructions of a code, counted (R18)
unfoldable pub count_of : (last : ℕ) (code : List ℕ) → Result ℕ Stopped
count_of last code = let read = instructions_in last code in count_by (length read.spots) read.fault
