-- What the functions that judge and store a line promise each other.
-- Assumes nothing.
use Rattle.std.specs.Prelude.{Option}
use Rattle.readback.specs.declared.placing.Aim.TheVariants as A
use Rattle.words.specs.declared.Signed.TheVariants as W
use Rattle.readback.specs.declared.placing.Aim.{Aim}
use Rattle.readback.specs.declared.BadLine.{BadLine}
use Rattle.op.specs.declared.Refusal.{Refusal}
use Rattle.readback.specs.declared.line.Told.{Told}
use Rattle.words.specs.declared.Signed.{Signed}
use Rattle.words.specs.declared.NumberError.TheVariants.{Not}
use Rattle.words.specs.declared.NumberError.TheVariants.{Large}
use Rattle.words.specs.declared.NumberError.{NumberError}
use Rattle.std.specs.Prelude.{◌≡◌, Bool, true, false, cond, List, ℕ, suc, ◌-◌, ◌≤◌, leb, eqb, ℤ, pos, negsuc, length, take, drop, Ok, Err, Some, None, Result}
use Rattle.op.specs.Opcodes.{known}
use Rattle.op.specs.Shapes.{shape_of}
use Rattle.op.specs.declared.Operand.{Operand}
use Rattle.op.specs.declared.Operand.TheVariants as O
use Rattle.op.specs.declared.Refusal.TheVariants.{Full, NotALine, Disagrees}
use Rattle.op.specs.declared.Table.TheVariants.{Code}
use Rattle.code.specs.Bytes.{front}
use Rattle.code.specs.Encode.{Formed as WellFormed}
use Rattle.code.specs.Encode.{encode}
use Rattle.text.specs.Number.{natural, value}
use Rattle.text.specs.Parts.{split}
use Rattle.text.specs.Reading.{same, opcode_of, read_operands}
use Rattle.text.specs.Row.{target_of}
use Rattle.readback.specs.declared.placing.Met.{Met}
use Rattle.readback.specs.declared.placing.Met.TheVariants as M
use Rattle.readback.specs.Inner.{most_numbers}
use Rattle.readback.specs.Operands.{Said, said, and_then}
use Rattle.readback.specs.Formed.{Formed, Judged, Good, Bad, alike, said_by, same_whole, same_target, judge_by}
use Rattle.readback.specs.Promise.{answer_of, stored_of}
use Rattle.readback.specs.Reading.{lines_from}

-- offsets and targets

-- the displacement of a jump
abbrev pub Aims : Operand → Option Aim → Type 0
Aims o (Some (A.On n)) = o ≡ O.Offset (pos n)
Aims o (Some (A.Back n)) = o ≡ O.Offset (negsuc n)
Aims o None = (at : ℕ) → target_of at o ≡ None

-- a whole number by its sign and its distance from zero
abbrev pub goal_of : ℤ → Signed
goal_of (pos n) = W.Plus n
goal_of (negsuc n) = W.Minus (suc n)

-- whether two numbers are the same
abbrev pub met_if : Bool → Met
met_if same = cond same M.Here M.Elsewhere

-- a number that was read, and one by its sign and its distance from zero
unfoldable pub met_of : Result Signed NumberError → Signed → Met
met_of (Ok (W.Plus v)) (W.Plus n) = met_if (eqb v n)
met_of (Ok (W.Plus v)) (W.Minus n) = M.Elsewhere
met_of (Ok (W.Minus v)) (W.Plus n) = M.Elsewhere
met_of (Ok (W.Minus v)) (W.Minus n) = met_if (eqb v n)
met_of (Err Large) want = M.Elsewhere
met_of (Err Not) want = M.Not

-- an offset column where `at` results, as a test and a number and as a text
abbrev pub offset_by : (at : ℕ) (digits : Bool) (n : ℕ) → Met
offset_by at digits n = cond digits (met_if (eqb n at)) M.Not

unfoldable pub offset_of : ℕ → List ℕ → Met
offset_of at t = offset_by at (natural t) (value t)

-- a jump's target column, and any, where a target results or none
unfoldable pub reached_by : Option ℤ → ℤ → Met
reached_by None z = M.Not
reached_by (Some y) z = met_if (same_whole y z)

unfoldable pub reached_of : Option (Option ℤ) → Option ℤ → Met
reached_of None want = M.Not
reached_of (Some told) want = cond (alike told want) (met_if (same_target told want)) M.Not

-- 24 where a column can't stand there, then 25 where one says another number
abbrev pub matched_of : (target : Met) (off : Bool) → Result Unit Refusal
matched_of M.Here off = cond off (Err Disagrees) (Ok tt)
matched_of M.Elsewhere off = Err Disagrees
matched_of M.Not off = Err NotALine

abbrev pub verdict_of : (offset target : Met) → Result Unit Refusal
verdict_of M.Here target = matched_of target false
verdict_of M.Elsewhere target = matched_of target true
verdict_of M.Not target = Err NotALine

-- a line

-- what an opcode's operand column says
unfoldable pub said_in : ℕ → Option (List ℤ) → Option Said
said_in k zs = cond (known k) (and_then zs (said_by (shape_of k))) None

-- the instruction of a name and an operand column, its keyword names in the cells
pub record Instructs (name column : List ℕ) (k : ℕ) (o : Operand) (from count : ℕ) (cells : List ℕ) : Type 0 where
  pub opcode : k ≡ opcode_of name
  pub ordered : from ≤ count
  pub few : count ≤ most_numbers
  pub says : said_in (opcode_of name) (read_operands column) ≡ Some (said o (take (count - from) (drop from cells)))

abbrev pub Tells : (name column : List ℕ) → Option Told → List ℕ → Type 0
Tells name column (Some told) cells = Instructs name column told.opcode told.operand told.names told.count cells
Tells name column None cells = said_in (opcode_of name) (read_operands column) ≡ None

-- bytes where there is room for them, or 18
unfoldable pub stored_as : (bytes : List ℕ) (room : ℕ) → Judged
stored_as bytes room = cond (leb (length bytes) room) (Good bytes) (Bad (Full Code))

-- what is answered of a line, and what becomes of the room from its offset on
abbrev pub line_of : Judged → Result ℕ Refusal
line_of (Good bytes) = Ok (length bytes)
line_of (Bad r) = Err r

abbrev pub laid : Judged → List ℕ → List ℕ
laid (Good bytes) out = front bytes out
laid (Bad r) out = out

pub record Lays (j : Judged) (old : List ℕ) (answer : Result ℕ Refusal) (out : List ℕ) : Type 0 where
  pub answers : answer ≡ line_of j
  pub cells : out ≡ laid j old

-- a well formed instruction, whose names have a count of one byte
pub record Storable (k : ℕ) (o : Operand) (names : List ℕ) : Type 0 where
  pub well : WellFormed k o names
  pub few : length names ≤ 255

abbrev pub Stores : (k : ℕ) (o : Operand) (names old : List ℕ) (answer : Result ℕ Refusal) (out : List ℕ) → Type 0
Stores k o names old answer out = Lays (stored_as (encode k o names) (length old)) old answer out

-- a line that is formed, or not
abbrev pub Lines : (at : ℕ) → Option Formed → (old : List ℕ) (answer : Result ℕ Refusal) (out : List ℕ) → Type 0
Lines at f old answer out = Lays (judge_by at (length old) f) old answer out

-- all lines

-- how many bytes an answer stores: none after a refusal
abbrev pub stored_in : Result ℕ BadLine → ℕ
stored_in (Ok n) = n
stored_in (Err bad) = 0

-- the answer for the lines behind the header, and their bytes at the front of the room
pub record Fills (body old : List ℕ) (answer : Result ℕ BadLine) (out : List ℕ) : Type 0 where
  pub answers : answer ≡ answer_of (lines_from 2 0 (length old) (split 10 body))
  pub bytes : take (length (stored_of (lines_from 2 0 (length old) (split 10 body)))) out
      ≡ stored_of (lines_from 2 0 (length old) (split 10 body))
