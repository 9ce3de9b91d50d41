-- `op::shapes::shape_number` meets its contract: one test over the row.
-- Assumes nothing.
use native.Mathlib.Omega.{arith}
use Rattle.op.specs.Opcodes.{known, row_of, table}
use Rattle.op.specs.Shapes.{shape_no}
use Rattle.op.specs.Inner.{shape_words, no_shapes}
use Rattle.op.proofs.InWords.{read_in}
use Rattle.op.proofs.shapes.shape_number.Goals as goal

pub returns : goal.returns
unfolding known row_of shape_no table
returns c = read_in shape_words no_shapes shape_no tt c.args.opcode _ _ (omega arith) c.word.ensures c.number_in.ensures
