-- `op::needs::word` meets its contract: behind the row stands the word for no opcode.
-- Assumes nothing.
use mathlib.Core.Path.{sym}
use native.Mathlib.Omega.{arith}
use lib.ListN.{get_or-eq_default}
use Rattle.base.proofs.Keys.{past}
use Rattle.op.specs.Inner.{need_words, no_needs}
use Rattle.op.proofs.needs.word.Goals as goal

pub returns-in_default : goal.returns-in_default
returns-in_default c = sym (get_or-eq_default need_words no_needs (past 0 17 _ c.in_default.in_default-own.rest (omega arith)))
