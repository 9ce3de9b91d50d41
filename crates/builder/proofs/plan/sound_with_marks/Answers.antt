-- `builder::plan::sound_with_marks` meets its contract: its tests are the definition's.
-- Assumes nothing.
use borrow.Author.Tests.{le-leb, lt-leb}
use Rattle.builder.proofs.plan.sound_with_marks.Goals as goal

pub returns-then-ml-core : goal.returns-then-ml-core
returns-then-ml-core c = simp (lt-leb _ _ c.if-ml-core.true)

pub returns : goal.returns
returns c = simp (le-leb _ _ c.if-ml-core.false) c.sound.ensures
