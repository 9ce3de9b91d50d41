-- `builder::marks::mark_of` meets its contract: its tests are the definition's.
-- Assumes nothing.
use Rattle.builder.specs.Marks.{mark_of}
use borrow.Author.Tests.{eq-eqb, ne_eqb}
use Rattle.builder.proofs.marks.mark_of.Goals as goal

pub returns-then-kind-eq-OPEN : goal.returns-then-kind-eq-OPEN
unfolding mark_of
returns-then-kind-eq-OPEN c = simp (eq-eqb _ _ c.if-kind-eq-OPEN.true)

pub returns-then-kind-eq-PATCHED : goal.returns-then-kind-eq-PATCHED
unfolding mark_of
returns-then-kind-eq-PATCHED c = simp (ne_eqb _ _ c.if-kind-eq-OPEN.false, eq-eqb _ _ c.if-kind-eq-PATCHED.true)

pub returns-then-kind-eq-TARGET : goal.returns-then-kind-eq-TARGET
unfolding mark_of
returns-then-kind-eq-TARGET c = simp (ne_eqb _ _ c.if-kind-eq-OPEN.false, ne_eqb _ _ c.if-kind-eq-PATCHED.false, eq-eqb _ _ c.if-kind-eq-TARGET.true)

pub returns : goal.returns
unfolding mark_of
returns c = simp (ne_eqb _ _ c.if-kind-eq-OPEN.false, ne_eqb _ _ c.if-kind-eq-PATCHED.false, ne_eqb _ _ c.if-kind-eq-TARGET.false)
