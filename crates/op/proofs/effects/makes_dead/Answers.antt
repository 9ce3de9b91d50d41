-- `op::effects::makes_dead` meets its contract, by the test of the last opcode and what `is_dead_maker` ensures.
-- Assumes nothing.
use Rattle.std.specs.Prelude.{Ok}
use mathlib.Core.Path.{ap}
use borrow.Author.Tests.{lt-leb, le-leb}
use Rattle.op.specs.Opcodes.{known}
use Rattle.op.proofs.effects.makes_dead.Goals as goal

pub returns-then-opcode-gt-LAST : goal.returns-then-opcode-gt-LAST
unfolding known
returns-then-opcode-gt-LAST c = simp (lt-leb _ _ c.if-opcode-gt-LAST.true)

pub returns : goal.returns
unfolding known
returns c = simp (le-leb _ _ c.if-opcode-gt-LAST.false) (ap Ok c.is_dead_maker.ensures)
