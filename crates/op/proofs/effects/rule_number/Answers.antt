-- `op::effects::rule_number` meets its contract: one test over the row.
-- Assumes nothing.
use native.Mathlib.Omega.{arith}
use Rattle.op.specs.Opcodes.{row_of, table}
use Rattle.op.specs.Inner.{rule_words, no_rules, rule_no}
use Rattle.op.proofs.InWords.{read_in}
use Rattle.op.proofs.effects.rule_number.Goals as goal

pub returns : goal.returns
unfolding row_of rule_no table
returns c = read_in rule_words no_rules rule_no tt c.args.opcode _ _ (omega arith) c.word.ensures c.number_in.ensures
