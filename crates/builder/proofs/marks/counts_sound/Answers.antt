-- `builder::marks::counts_sound` meets its contract: its tests are the definition's.
-- Assumes nothing.
use Rattle.builder.specs.Marks.{markable}
use borrow.Author.Tests.{le-leb, lt-leb}
use Rattle.builder.proofs.marks.counts_sound.Goals as goal

pub returns-then-cl-core : goal.returns-then-cl-core
unfolding markable
returns-then-cl-core c = simp (lt-leb _ _ c.if-cl-core.true)

pub returns-then-core-gt-CODE_LIMIT : goal.returns-then-core-gt-CODE_LIMIT
unfolding markable
returns-then-core-gt-CODE_LIMIT c = simp (le-leb _ _ c.if-cl-core.false, lt-leb _ _ c.if-core-gt-CODE_LIMIT.true)

pub returns : goal.returns
unfolding markable
returns c = simp (le-leb _ _ c.if-cl-core.false, le-leb _ _ c.if-core-gt-CODE_LIMIT.false)
