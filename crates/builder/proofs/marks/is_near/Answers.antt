-- `builder::marks::is_near` meets its contract: its tests are the definition's.
-- Assumes nothing.
use Rattle.builder.specs.Marks.{near}
use borrow.Author.Tests.{le-leb, lt-leb}
use Rattle.builder.proofs.marks.is_near.Goals as goal

pub returns-then-to-from : goal.returns-then-to-from
unfolding near
returns-then-to-from c = simp (lt-leb _ _ c.if-to-from.true)

pub returns : goal.returns
unfolding near
returns c = simp (le-leb _ _ c.if-to-from.false)
