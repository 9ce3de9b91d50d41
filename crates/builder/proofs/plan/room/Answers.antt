-- `builder::plan::room` meets its contract: its tests are the definition's.
-- Assumes nothing.
use Rattle.builder.specs.Inner.{room_of}
use borrow.Author.Tests.{le-leb, lt-leb}
use Rattle.builder.proofs.plan.room.Goals as goal

pub returns-then-cl-at : goal.returns-then-cl-at
unfolding room_of
returns-then-cl-at c = simp (lt-leb _ _ c.if-cl-at.true)

pub returns-then-at-size : goal.returns-then-at-size
unfolding room_of
returns-then-at-size c = simp (le-leb _ _ c.if-cl-at.false, lt-leb _ _ c.if-at-size.true)

pub returns : goal.returns
unfolding room_of
returns c = simp (le-leb _ _ c.if-cl-at.false, le-leb _ _ c.if-at-size.false)
