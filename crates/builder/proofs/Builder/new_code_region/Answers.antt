-- `builder::Builder::new_code_region` meets its contract: its tests are the definition's.
-- Assumes nothing.
use Rattle.builder.specs.Regions.{region_of}
use borrow.Author.Tests.{le-leb, lt-leb}
use Rattle.builder.proofs.Builder.new_code_region.Goals as goal

pub returns-then-core-gt-CODE_LIMIT : goal.returns-then-core-gt-CODE_LIMIT
unfolding region_of
returns-then-core-gt-CODE_LIMIT c = simp (lt-leb _ _ c.if-core-gt-CODE_LIMIT.true)

pub returns-then-starts-self : goal.returns-then-starts-self
unfolding region_of
returns-then-starts-self c = simp (le-leb _ _ c.if-core-gt-CODE_LIMIT.false, lt-leb _ _ c.if-starts-self.true)

pub returns-in-Some : goal.returns-in-Some
unfolding region_of
returns-in-Some c = simp (le-leb _ _ c.if-core-gt-CODE_LIMIT.false, le-leb _ _ c.if-starts-self.false, c.in-Some.is)

pub returns : goal.returns
unfolding region_of
returns c =
    simp (le-leb _ _ c.if-core-gt-CODE_LIMIT.false, le-leb _ _ c.if-starts-self.false, c.in_default.is)
    c.store_start.ensures
