-- `checker::cells::before_last` meets its contract: the last cell counts or does not.
-- Assumes nothing.
use native.Mathlib.Omega.{arith}
use Rattle.checker.proofs.Holding.{held_before, held_same}
use Rattle.checker.proofs.cells.before_last.Goals as goal

pub overflow_sub-result : goal.overflow_sub-result
overflow_sub-result c = omega (arith, c.requires.1, held_before c.args.cells.now c.requires.0 c.if-last-le-WORD_MAX.true)

pub returns-then-last-le-WORD_MAX : goal.returns-then-last-le-WORD_MAX
returns-then-last-le-WORD_MAX c = omega (arith, c.requires.1, held_before c.args.cells.now c.requires.0 c.if-last-le-WORD_MAX.true)

pub returns-else-last-le-WORD_MAX : goal.returns-else-last-le-WORD_MAX
returns-else-last-le-WORD_MAX c = omega (arith, c.requires.1, held_same c.args.cells.now c.requires.0 c.if-last-le-WORD_MAX.false)
