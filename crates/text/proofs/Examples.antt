-- The listing of nine bytes (R55, R56), and the two inputs that have one line, computed.
-- Assumes nothing.
use mathlib.Core.Path.{◌≡◌, refl}
use mathlib.Core.List.{List, [], ◌∷◌}
use Prim.Native.Nat.{ℕ, ◌<◌}
use lib.ListN.{length}
use borrow.Author.Tests.{lt-leb}
use Rattle.op.specs.Names.{ascii, name_of}
use Rattle.op.specs.Opcodes.{table, known, row_of}
use Rattle.op.specs.Shapes.{shape_of, size_of}
use Rattle.code.specs.Bytes.{signed}
use Rattle.code.specs.Decode.{decode, step_in, shape_up_to, operand_in, names_at}
use Rattle.code.specs.Reading.{instructions_from, read_up_to}
use Rattle.text.specs.Decimal.{up_to, decimal}
use Rattle.text.specs.Listing.{header, fault_line, lines_of, listing_of, most}

pub example : listing_of (0x06 ∷ 0x5A ∷ 0x03 ∷ 0x00 ∷ 0x08 ∷ 0x07 ∷ 0x00 ∷ 0x05 ∷ 0x65 ∷ [])
    ≡ ascii "offset\tname\toperands\ttarget\n0\tLoadTrue\t-\t-\n1\tJumpIfFalse\t3\t7\n4\tLoadSmallInt\t7\t-\n6\tPop\t-\t-\n7\tLoadNone\t-\t-\n8\tReturnValue\t-\t-\n"
unfolding listing_of lines_of instructions_from read_up_to header decode step_in shape_up_to operand_in names_at signed shape_of
    size_of known row_of table name_of decimal up_to
example = refl

-- "Of no bytes it is the header alone"
pub nothing : listing_of [] ≡ ascii "offset\tname\toperands\ttarget\n"
unfolding listing_of lines_of instructions_from read_up_to header
nothing = refl

-- "the single line `!`, 0, 10"
pub too_long : (code : List ℕ) → most < length code → listing_of code ≡ ascii "!\t0\t10\n"
unfolding listing_of fault_line decimal up_to
too_long code h = rw (lt-leb (length code) most h)

-- a fault, and a keyword call with its count in its place
pub fault : listing_of (0x00 ∷ 0x53 ∷ 0x03 ∷ 0x02 ∷ 0x01 ∷ 0x00 ∷ 0x02 ∷ 0x00 ∷ 0x58 ∷ 0xF5 ∷ 0xFF ∷ 0x83 ∷ [])
    ≡ ascii "offset\tname\toperands\ttarget\n0\tPop\t-\t-\n1\tCallFunctionKw\t3,2,1,2\t-\n8\tJump\t-11\t0\n!\t11\t1\n"
unfolding listing_of lines_of instructions_from read_up_to header fault_line decode step_in shape_up_to operand_in names_at signed
    shape_of size_of known row_of table name_of decimal up_to
fault = refl
