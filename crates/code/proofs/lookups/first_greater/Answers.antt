-- `code::lookups::first_greater` meets its contract. The loop's invariant: no row passed has a greater offset.
-- Assumes nothing.
use mathlib.Core.Path.{sym, ◌∙◌}
use borrow.Author.Tests.{lt-ltb, le-ltb}
use native.Mathlib.Omega.{arith}
use Rattle.code.specs.Lookups.{first_greater}
use Rattle.code.proofs.First.{passed_none, passed_more, passed_two, passed_hit, passed_all, passed_last}
use Rattle.code.proofs.lookups.first_greater.Goals as goal

pub loop-row-init : goal.loop-row-init
loop-row-init c = passed_none _ _

pub returns-then-offset-cell_of : goal.returns-then-offset-cell_of
unfolding first_greater
returns-then-offset-cell_of c = passed_hit _ _ _ c.loop-row.invariant (rw c.cell_of.ensures at (lt-ltb _ _ c.if-offset-cell_of.true))

pub returns-then-offset-cell_of-2 : goal.returns-then-offset-cell_of-2
unfolding first_greater
returns-then-offset-cell_of-2 c =
    passed_hit _ _ _
    (passed_more _ _ _ c.loop-row.invariant (omega arith)
    (rw c.cell_of.ensures at (le-ltb _ _ c.if-offset-cell_of.false)))
    (rw c.cell_of-in-loop-row.ensures at (lt-ltb _ _ c.if-offset-cell_of-2.true))

pub loop-row-preserved : goal.loop-row-preserved
loop-row-preserved c =
    passed_two _ _ _ c.loop-row.invariant (omega arith)
    (rw c.cell_of.ensures at (le-ltb _ _ c.if-offset-cell_of.false))
    (rw c.cell_of-in-loop-row.ensures at (le-ltb _ _ c.if-offset-cell_of-2.false))

pub returns-then-row-count : goal.returns-then-row-count
unfolding first_greater
returns-then-row-count c = sym c.if-row-count.true ∙ passed_all _ _ _ c.loop-row.invariant (omega arith)

pub returns-then-offset-cell_of-3 : goal.returns-then-offset-cell_of-3
unfolding first_greater
returns-then-offset-cell_of-3 c = passed_hit _ _ _ c.loop-row.invariant (rw c.cell_of-2.ensures at (lt-ltb _ _ c.if-offset-cell_of-3.true))

pub returns : goal.returns
unfolding first_greater
returns c =
    let i = c.loop-row.invariant.inside in
    passed_last _ _ _ c.loop-row.invariant (omega arith) (omega arith)
    (rw c.cell_of-2.ensures at (le-ltb _ _ c.if-offset-cell_of-3.false))
