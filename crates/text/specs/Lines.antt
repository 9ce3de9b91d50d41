-- The two listings in lines, from any cursor on: the plain one (R55, R56), and that of checked code, which has the depth
-- in front of each of its lines, and a line for the code's end. A cursor is 0 at the first line, and behind it an offset
-- and 1.
-- Assumes nothing.
use Rattle.text.specs.Fitting.{Listed}
use Rattle.std.specs.Prelude.{◌≡◌, cond, List, [], ◌∷◌, ◌++◌, ℕ, zero, suc, ◌+◌, leb, ltb, eqb, length, take, drop, get_or, Err, None, Option, Some}
use Rattle.op.specs.Opcodes.{last_opcode}
use Rattle.op.specs.Names.{ascii, name_of}
use Rattle.op.specs.declared.Refusal.{Refusal}
use Rattle.op.specs.declared.Refusal.TheVariants.{TooLarge, ShortDepths}
use Rattle.op.specs.declared.Operand.TheVariants.{None}
use Rattle.code.specs.Reading.{Spot, Read, instructions_from}
use Rattle.code.specs.Tables.{code_limit, no_depth}
use Rattle.text.specs.Decimal.{decimal}
use Rattle.text.specs.Fitting.{Line, line_to, text_of, listed_of, listed_in}
use Rattle.text.specs.Listing.{line, most, fault_line, first_line, spot_line}
use Rattle.text.specs.Row.{dash, row_of, fields_text}

-- a cell of depths: the depth, or `-` where there is none
abbrev pub depth_text : ℕ → List ℕ
depth_text d = cond (eqb d no_depth) dash (decimal d)

-- the column in front of the line at an offset: its cell, and a tab. Past the cells there is no column, so that
-- without cells there is none (R66)
unfoldable pub column_of : List ℕ → ℕ → List ℕ
column_of depths at = cond (ltb at (length depths)) (depth_text (get_or depths at 0) ++ (9 ∷ [])) []

-- the line of the code's end: its offset, `end`, no operands and no target (R66)
unfoldable pub end_line : ℕ → List ℕ
end_line at = line (fields_text (ascii "end") (row_of at 0 None []))

-- at the code's end: its line where it has a cell, and nothing else
unfoldable pub end_lines : List ℕ → ℕ → List Line
end_lines depths at = cond (ltb at (length depths)) (line_to (column_of depths at ++ end_line at) (suc (suc at)) ∷ []) []

-- the line of an instruction with its column, and the cursor behind it
abbrev pub spot_line_in : (depths : List ℕ) (spot : Spot) → Line
spot_line_in depths spot =
    line_to (column_of depths spot.offset ++ spot_line name_of spot) (suc (spot.offset + spot.size))

-- the lines of instructions, in front of more
abbrev pub spots_then : (depths : List ℕ) (spots : List Spot) (more : List Line) → List Line
spots_then depths [] more = more
spots_then depths (spot ∷ spots) more = spot_line_in depths spot ∷ spots_then depths spots more

-- where reading stops: the end's lines, or the fault's, which has no column and is the last
abbrev pub stop_lines : (depths code : List ℕ) (at : ℕ) (fault : Option Refusal) → List Line
stop_lines depths code at None = end_lines depths at
stop_lines depths code at (Some r) = line_to (fault_line at r) (suc (suc (length code))) ∷ []

-- the lines of what was read of a code
abbrev pub read_lines : (depths code : List ℕ) (read : Read) → List Line
read_lines depths code read = spots_then depths read.spots (stop_lines depths code read.stop read.fault)

-- the lines of a code from an offset on
unfoldable pub lines_from : (depths code : List ℕ) (at : ℕ) → List Line
lines_from depths code at = read_lines depths code (instructions_from last_opcode at (drop at code))

-- the lines of a listing from a cursor on
abbrev pub lines_at : List ℕ → List ℕ → List ℕ → ℕ → List Line
lines_at first depths code zero = line_to first 1 ∷ lines_from depths code 0
lines_at first depths code (suc at) = lines_from depths code at

-- the plain listing: of code that is too long the first line alone
abbrev pub listed_code : List ℕ → List ℕ
listed_code code = cond (leb (length code) most) code []

unfoldable pub plain_lines : List ℕ → ℕ → List Line
plain_lines code cursor = lines_at (first_line (length code)) [] (listed_code code) cursor

-- the listing of checked code, with a cell for each offset and for its end
unfoldable pub checked_header : List ℕ
checked_header = line (ascii "depth\toffset\tname\toperands\ttarget")

unfoldable pub checked_lines : List ℕ → List ℕ → ℕ → List Line
checked_lines code depths cursor = lines_at checked_header (take (suc (length code)) depths) code cursor

-- the whole of it (R66)
unfoldable pub checked_listing_of : List ℕ → List ℕ → List ℕ
checked_listing_of code depths = text_of (checked_lines code depths 0)

-- the answer of a call that makes a part of it, and every lent cell: 10, then 21, then 18 (R67)
pub record ListsChecked (code depths : List ℕ) (cursor : ℕ) (old : List ℕ) (answer : Listed) (out : List ℕ) : Type 0
  where
    pub answers : answer ≡
        cond (leb (length code) code_limit)
        (cond (ltb (length code) (length depths)) (listed_of (checked_lines code depths cursor) cursor old)
        (Err ShortDepths))
        (Err TooLarge)
    pub cells : out ≡ cond (leb (length code) code_limit)
        (cond (ltb (length code) (length depths)) (listed_in (checked_lines code depths cursor) cursor old) old) old
