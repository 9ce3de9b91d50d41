-- The listing of example A read back, and texts and lines that are easy to take for others, computed.
-- Assumes nothing.
use mathlib.Core.Path.{◌≡◌, refl}
use mathlib.Core.List.{[], ◌∷◌}
use Rattle.op.specs.Names.{ascii}
use Rattle.op.specs.Opcodes.{table, known, row_of}
use Rattle.op.specs.Shapes.{shape_of}
use Rattle.op.specs.declared.Refusal.TheVariants.{Full, NotALine, Disagrees}
use Rattle.op.specs.declared.Table.TheVariants.{Code}
use Rattle.code.specs.Encode.{encode}
use Rattle.text.specs.Listing.{header}
use Rattle.text.specs.Parts.{split}
use Rattle.text.specs.Reading.{opcode_of, read_row}
use Rattle.readback.specs.Operands.{and_then, plain_at, signed_at, ends, words, named, operand_for}
use Rattle.readback.specs.Formed.{formed_row, formed, agrees, Good, Bad, judge_formed, judge}
use Rattle.readback.specs.Reading.{Read, Stopped, lines_from, reading}

-- texts, and what is read of them
pub texts :
    -- example A
    (reading 9 (ascii "offset\tname\toperands\ttarget\n0\tLoadTrue\t-\t-\n1\tJumpIfFalse\t3\t7\n4\tLoadSmallInt\t7\t-\n6\tPop\t-\t-\n7\tLoadNone\t-\t-\n8\tReturnValue\t-\t-\n") ≡ Read (0x06 ∷ 0x5A ∷ 0x03 ∷ 0x00 ∷ 0x08 ∷ 0x07 ∷ 0x00 ∷ 0x05 ∷ 0x65 ∷ []))
    -- no text is 24 at line 1
    × (reading 9 (ascii "") ≡ Stopped NotALine 1)
    -- a header without LF
    × (reading 9 (ascii "offset\tname\toperands\ttarget") ≡ Stopped NotALine 1)
    -- the header alone is the empty code
    × (reading 0 (ascii "offset\tname\toperands\ttarget\n") ≡ Read [])
    -- a blank line
    × (reading 9 (ascii "offset\tname\toperands\ttarget\n\n") ≡ Stopped NotALine 2)
    -- a last line without LF
    × (reading 9 (ascii "offset\tname\toperands\ttarget\n0\tPop\t-\t-") ≡ Stopped NotALine 2)
    -- the second instruction is line 3, and the first bad line is told alone
    × (reading 9 (ascii "offset\tname\toperands\ttarget\n0\tPop\t-\t-\n2\tPop\t-\t-\n\n") ≡ Stopped Disagrees 3)
unfolding reading lines_from header judge judge_formed agrees formed formed_row operand_for plain_at signed_at and_then ends words named split read_row opcode_of
    table known shape_of row_of encode
texts = (refl, refl, refl, refl, refl, refl, refl)

-- lines at an offset with so much room, and what is said of them
pub lines :
    -- a zero in front
    (judge 0 9 (ascii "0\tLoadConst\t01\t-") ≡ Bad NotALine)
    -- -0
    × (judge 0 9 (ascii "0\tLoadSmallInt\t-0\t-") ≡ Bad NotALine)
    -- a plus sign
    × (judge 0 9 (ascii "0\tLoadSmallInt\t+1\t-") ≡ Bad NotALine)
    -- any natural number can stand for the offset
    × (judge 0 9 (ascii "99999999999999999999999999999\tPop\t-\t-") ≡ Bad Disagrees)
    -- no operand is that large
    × (judge 0 9 (ascii "0\tLoadConst\t99999999999999999999999\t-") ≡ Bad NotALine)
    -- a target below zero
    × (judge 0 9 (ascii "0\tJump\t-4\t-1") ≡ Good (0x58 ∷ 0xFC ∷ 0xFF ∷ []))
    -- a jump without a target
    × (judge 0 9 (ascii "0\tJump\t0\t-") ≡ Bad NotALine)
    -- a target that no jump has
    × (judge 0 9 (ascii "0\tPop\t-\t1") ≡ Bad NotALine)
    -- a count that is not that of the names
    × (judge 0 9 (ascii "0\tCallFunctionKw\t1,2,3\t-") ≡ Bad NotALine)
    -- a fault line
    × (judge 0 9 (ascii "!\t0\t1") ≡ Bad NotALine)
    -- 25 comes before 18
    × (judge 1 0 (ascii "0\tPop\t-\t-") ≡ Bad Disagrees)
    -- 18
    × (judge 0 0 (ascii "0\tPop\t-\t-") ≡ Bad (Full Code))
unfolding judge judge_formed agrees formed formed_row operand_for plain_at signed_at and_then ends words named split read_row opcode_of
    table known shape_of row_of encode
lines = (refl, refl, refl, refl, refl, refl, refl, refl, refl, refl, refl, refl)
