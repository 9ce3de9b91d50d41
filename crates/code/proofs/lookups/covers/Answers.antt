-- `code::lookups::covers` meets its contract: its two tests are those of the definition.
-- Assumes nothing.
use borrow.Author.Tests.{le-leb, lt-leb}
use Rattle.code.specs.Lookups.{covers_of}
use Rattle.code.proofs.lookups.covers.Goals as goal

pub returns-then-start-offset : goal.returns-then-start-offset
unfolding covers_of
returns-then-start-offset c = simp (le-leb _ _ c.if-start-offset.true)

pub returns : goal.returns
unfolding covers_of
returns c = simp (lt-leb _ _ c.if-start-offset.false)
