-- `op::needs::need` meets its contract: one test over the row.
-- Assumes nothing.
use native.Mathlib.Omega.{arith}
use Rattle.op.specs.Names.{name_of}
use Rattle.op.specs.Needs.{need_of}
use Rattle.op.specs.Opcodes.{row_of, table}
use Rattle.op.specs.Inner.{need_words, no_needs}
use Rattle.op.proofs.InWords.{read_in}
use Rattle.op.proofs.needs.need.Goals as goal

pub returns : goal.returns
unfolding need_of name_of row_of table
returns c = read_in need_words no_needs need_of tt c.args.opcode _ _ (omega arith) c.word.ensures c.number_in.ensures
