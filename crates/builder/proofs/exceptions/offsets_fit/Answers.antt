-- `builder::exceptions::offsets_fit` meets its contract: its tests are the definition's.
-- Assumes nothing.
use Rattle.builder.specs.Exceptions.{offsets_fit}
use borrow.Author.Tests.{le-leb, lt-leb}
use Rattle.builder.proofs.exceptions.offsets_fit.Goals as goal

pub returns-then-start-gt-OFFSET_MAX : goal.returns-then-start-gt-OFFSET_MAX
unfolding offsets_fit
returns-then-start-gt-OFFSET_MAX c = simp (lt-leb _ _ c.if-start-gt-OFFSET_MAX.true)

pub returns-then-end-gt-OFFSET_MAX : goal.returns-then-end-gt-OFFSET_MAX
unfolding offsets_fit
returns-then-end-gt-OFFSET_MAX c = simp (le-leb _ _ c.if-start-gt-OFFSET_MAX.false, lt-leb _ _ c.if-end-gt-OFFSET_MAX.true)

pub returns : goal.returns
unfolding offsets_fit
returns c = simp (le-leb _ _ c.if-start-gt-OFFSET_MAX.false, le-leb _ _ c.if-end-gt-OFFSET_MAX.false)
