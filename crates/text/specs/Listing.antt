-- A whole listing: R55, R56; refusals 1, 10 and 22 (R27).
-- Assumes nothing.
use Rattle.code.specs.Decode.{Step}
use Rattle.std.specs.Prelude.{cond, List, [], ◌∷◌, ◌++◌, ℕ, leb, length, drop, Ok, Err, Some, None, Option}
use Rattle.op.specs.Opcodes.{last_opcode}
use Rattle.op.specs.Names.{ascii, name_of}
use Rattle.op.specs.Refusals.{number_of}
use Rattle.op.specs.declared.Refusal.{Refusal}
use Rattle.op.specs.declared.Refusal.TheVariants.{TooLarge}
use Rattle.code.specs.Decode.{decode}
use Rattle.code.specs.Reading.{Spot, Read, spot_at, instructions_from, instructions_in}
use Rattle.text.specs.Decimal.{decimal}
use Rattle.text.specs.Parts.{join}
use Rattle.text.specs.Row.{row_of, fields_text}

-- "ended by LF"
abbrev pub line : List ℕ → List ℕ
line t = t ++ (10 ∷ [])

-- "A listing's first line is a header"
unfoldable pub header : List ℕ
header = line (ascii "offset\tname\toperands\ttarget")

-- "A fault ends it with a line `!`, offset, refusal number" (R56)
unfoldable pub fault_line : ℕ → Refusal → List ℕ
fault_line at r = line (join 9 ((33 ∷ []) ∷ decimal at ∷ decimal (number_of r) ∷ []))

-- up to 65,536: the most bytes that are listed
abbrev pub most : ℕ
most = 65536

-- the line of an instruction where it stands; names by a rule
abbrev pub spot_line : (name : ℕ → List ℕ) (spot : Spot) → List ℕ
spot_line name spot =
    let what = spot.what in
    line (fields_text (name what.opcode) (row_of spot.offset what.opcode what.operand what.names))

-- the line of what a step finds at the front of u, the code from an offset on
abbrev pub line_by : (name : ℕ → List ℕ) (at : ℕ) (u : List ℕ) (step : Step) → List ℕ
line_by name at u (Ok (Some i)) = spot_line name (spot_at last_opcode at u i.opcode i.operand i.size)
line_by name at u (Ok None) = []
line_by name at u (Err r) = fault_line at r

-- the line of what stands at the front of u
unfoldable pub line_of : (name : ℕ → List ℕ) (at : ℕ) (u : List ℕ) → List ℕ
line_of name at u = line_by name at u (decode last_opcode at u)

-- the lines of instructions
abbrev pub spot_lines : List Spot → List ℕ
spot_lines [] = []
spot_lines (spot ∷ spots) = spot_line name_of spot ++ spot_lines spots

-- the line of a fault, where there is one
abbrev pub stop_line : (at : ℕ) (fault : Option Refusal) → List ℕ
stop_line at None = []
stop_line at (Some r) = fault_line at r

-- the lines of what was read
unfoldable pub lines_of : Read → List ℕ
lines_of read = spot_lines read.spots ++ stop_line read.stop read.fault

-- the whole listing (R55)
unfoldable pub listing_of : (code : List ℕ) → List ℕ
listing_of code =
    cond (leb (length code) most) (header ++ lines_of (instructions_in last_opcode code)) (fault_line 0 TooLarge)

-- the first line of a listing of so many bytes (R56)
unfoldable pub first_line : ℕ → List ℕ
first_line size = cond (leb size most) header (fault_line 0 TooLarge)

-- and what comes behind it: the lines from an offset on
unfoldable pub rest_of : (code : List ℕ) (at : ℕ) → List ℕ
rest_of code at = cond (leb (length code) most) (lines_of (instructions_from last_opcode at (drop at code))) []
