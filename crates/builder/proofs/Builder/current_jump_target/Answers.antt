-- `builder::Builder::current_jump_target` meets its contract: its tests are the definition's.
-- Assumes nothing.
use Rattle.builder.specs.Marks.{target_of}
use borrow.Author.Tests.{le-leb, lt-leb}
use Rattle.builder.proofs.Builder.current_jump_target.Goals as goal

pub returns-then-core-gt-CODE_LIMIT : goal.returns-then-core-gt-CODE_LIMIT
unfolding target_of
returns-then-core-gt-CODE_LIMIT c = simp (lt-leb _ _ c.if-core-gt-CODE_LIMIT.true)

pub returns-then-marks-core : goal.returns-then-marks-core
unfolding target_of
returns-then-marks-core c = simp (le-leb _ _ c.if-core-gt-CODE_LIMIT.false, lt-leb _ _ c.if-marks-core.true)

pub returns-in_default : goal.returns-in_default
unfolding target_of
returns-in_default c = simp (le-leb _ _ c.if-core-gt-CODE_LIMIT.false, le-leb _ _ c.if-marks-core.false, c.in_default.is)

pub returns : goal.returns
unfolding target_of
returns c =
    simp (le-leb _ _ c.if-core-gt-CODE_LIMIT.false, le-leb _ _ c.if-marks-core.false, c.in-Some.is)
    (rw c.in-Some.is at c.mark_target.ensures)
