-- `code::lookups::first_covering` meets its contract. The loop's invariant: no row passed covers the offset.
-- Assumes nothing.
use mathlib.Core.Path.{sym, ◌∙◌}
use native.Mathlib.Omega.{arith}
use Rattle.code.specs.Lookups.{first_covering}
use Rattle.code.proofs.First.{passed_none, passed_more, passed_two, passed_hit, passed_all, passed_last}
use Rattle.code.proofs.lookups.first_covering.Goals as goal

pub loop-row-init : goal.loop-row-init
loop-row-init c = passed_none _ _

pub returns-then-row_covers : goal.returns-then-row_covers
unfolding first_covering
returns-then-row_covers c = passed_hit _ _ _ c.loop-row.invariant (sym c.row_covers.ensures ∙ c.if-row_covers.true)

pub returns-then-row_covers-2 : goal.returns-then-row_covers-2
unfolding first_covering
returns-then-row_covers-2 c =
    passed_hit _ _ _
    (passed_more _ _ _ c.loop-row.invariant (omega arith)
    (sym c.row_covers.ensures ∙ c.if-row_covers.false))
    (sym c.row_covers-in-loop-row.ensures ∙ c.if-row_covers-2.true)

pub loop-row-preserved : goal.loop-row-preserved
loop-row-preserved c =
    passed_two _ _ _ c.loop-row.invariant (omega arith)
    (sym c.row_covers.ensures ∙ c.if-row_covers.false)
    (sym c.row_covers-in-loop-row.ensures ∙ c.if-row_covers-2.false)

pub returns-then-row-count : goal.returns-then-row-count
unfolding first_covering
returns-then-row-count c = sym c.if-row-count.true ∙ passed_all _ _ _ c.loop-row.invariant (omega arith)

pub returns-then-row_covers-3 : goal.returns-then-row_covers-3
unfolding first_covering
returns-then-row_covers-3 c = passed_hit _ _ _ c.loop-row.invariant (sym c.row_covers-2.ensures ∙ c.if-row_covers-3.true)

pub returns : goal.returns
unfolding first_covering
returns c =
    let i = c.loop-row.invariant.inside in
    passed_last _ _ _ c.loop-row.invariant (omega arith) (omega arith)
    (sym c.row_covers-2.ensures ∙ c.if-row_covers-3.false)
