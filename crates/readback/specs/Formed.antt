-- One line: refusals 24, 25 and 18, in this order (R68 to R71).
-- Assumes nothing.
use Rattle.op.specs.declared.Shape.{Shape}
use Rattle.std.specs.Prelude.{Bool, true, false, cond, ◌&&◌, List, ℕ, leb, eqb, ℤ, pos, negsuc, length, Ok, Err, Result, None, Option, Some}
use Rattle.op.specs.Shapes.{shape_of}
use Rattle.op.specs.declared.Refusal.{Refusal}
use Rattle.op.specs.declared.Refusal.TheVariants.{Full, NotALine, Disagrees}
use Rattle.op.specs.declared.Table.TheVariants.{Code}
use Rattle.code.specs.Encode.{encode}
use Rattle.text.specs.Reading.{only_if, read_row}
use Rattle.text.specs.Row.{Row, target_of}
use Rattle.readback.specs.Operands.{Said, and_then, operand_for}

-- a line's row, and what its operands say
pub record Formed : Type 0 where
  pub row : Row
  pub said : Said

-- "the target `-` for all but jumps": both are there, or neither
abbrev pub alike : Option ℤ → Option ℤ → Bool
alike None None = true
alike None (Some z) = false
alike (Some y) None = false
alike (Some y) (Some z) = true

-- the numbers of an operand column, by the shape of the opcode
abbrev pub said_by : Result Shape Refusal → List ℤ → Option Said
said_by (Ok s) zs = operand_for s zs
said_by (Err r) zs = None

-- a row with what its operands say
abbrev pub formed_by : Row → Said → Option Formed
formed_by r s = only_if (alike r.target (target_of r.offset s.operand)) (record { row = r; said = s })

-- a row that a listing has without fault
unfoldable pub formed_row : Row → Option Formed
formed_row r = and_then (said_by (shape_of r.opcode) r.operands) (formed_by r)

-- 24: "a line not formed as `listing` forms one without fault" (R68)
unfoldable pub formed : List ℕ → Option Formed
formed t = and_then (read_row t) formed_row

-- two whole numbers, or two targets, are the same
abbrev pub same_whole : ℤ → ℤ → Bool
same_whole (pos m) (pos n) = eqb m n
same_whole (pos m) (negsuc n) = false
same_whole (negsuc m) (pos n) = false
same_whole (negsuc m) (negsuc n) = eqb m n

abbrev pub same_target : Option ℤ → Option ℤ → Bool
same_target None None = true
same_target None (Some z) = false
same_target (Some y) None = false
same_target (Some y) (Some z) = same_whole y z

-- 25: "the offset column must equal the offset that results, and target and displacement must agree" (R69)
unfoldable pub agrees : ℕ → Formed → Bool
agrees at f = eqb f.row.offset at && same_target f.row.target (target_of at f.said.operand)

-- the instruction's bytes
abbrev pub bytes_in : Formed → List ℕ
bytes_in f = encode f.row.opcode f.said.operand f.said.names

-- a line's bytes, or why it has none
pub data Judged : Type 0 where
  Good : List ℕ → Judged
  Bad : Refusal → Judged

-- a line that is formed, at an offset, with so many bytes of room behind it: 25, then 18 (R70)
unfoldable pub judge_formed : (at room : ℕ) → Formed → Judged
judge_formed at room f =
    cond (agrees at f) (cond (leb (length (bytes_in f)) room) (Good (bytes_in f)) (Bad (Full Code))) (Bad Disagrees)

abbrev pub judge_by : (at room : ℕ) → Option Formed → Judged
judge_by at room None = Bad NotALine
judge_by at room (Some f) = judge_formed at room f

-- 24, then 25, then 18 (R71)
unfoldable pub judge : (at room : ℕ) → List ℕ → Judged
judge at room t = judge_by at room (formed t)
