-- `builder::marks::mark_in` meets its contract: its test is the definition's.
-- Assumes nothing.
use Rattle.builder.specs.Marks.{mark_in}
use borrow.Author.Tests.{le-ltb, lt-ltb}
use Rattle.builder.proofs.marks.mark_in.Goals as goal

pub returns-then-rows-i : goal.returns-then-rows-i
unfolding mark_in
returns-then-rows-i c = simp (le-ltb _ _ c.if-rows-i.true)

pub returns : goal.returns
unfolding mark_in
returns c = simp (lt-ltb _ _ c.if-rows-i.false) c.mark_of.ensures
