-- `readback::line::read` meets its contract: the fields are what stands between the tabs.
-- Assumes nothing.
use Rattle.std.specs.Prelude.{Option}
use mathlib.Core.Path.{sym, ap, subst}
use native.Mathlib.Omega.{arith}
use lib.Seq.{length-take-le}
use lib.ListN.{length}
use Rattle.readback.specs.Lined.{Lays}
use Rattle.readback.specs.Formed.{Formed, judge_by}
use Rattle.readback.proofs.Lining.{rest, lays_bad, found_one, found_two, found_three, found_more, found_four}
use Rattle.readback.proofs.line.read.Goals as goal

pub returns-then-t-a : goal.returns-then-t-a
returns-then-t-a c =
    let a = c.args in
    lays_bad _ _ a.out.now
    (ap (judge_by a.at (length a.out.now)) (found_one a.t.now _ c.cut-a.ensures c.if-t-a.true))

pub returns-then-from_name-b : goal.returns-then-from_name-b
returns-then-from_name-b c =
    let a = c.args in
    lays_bad _ _ a.out.now
    (ap (judge_by a.at (length a.out.now))
    (found_two a.t.now c.cut-a.result c.cut-a.ensures c.if-t-a.false
    c.cut-b.result c.cut-b.ensures c.if-from_name-b.true))

pub returns-then-from_column-c : goal.returns-then-from_column-c
returns-then-from_column-c c =
    let a = c.args in
    lays_bad _ _ a.out.now
    (ap (judge_by a.at (length a.out.now))
    (found_three a.t.now c.cut-a.result c.cut-a.ensures c.if-t-a.false
    c.cut-b.result c.cut-b.ensures c.if-from_name-b.false
    c.cut-c.result c.cut-c.ensures c.if-from_column-c.true))

pub returns-then-cut-target : goal.returns-then-cut-target
returns-then-cut-target c =
    let a = c.args in
    lays_bad _ _ a.out.now
    (ap (judge_by a.at (length a.out.now))
    (found_more a.t.now c.cut-a.result c.cut-a.ensures c.if-t-a.false
    c.cut-b.result c.cut-b.ensures c.if-from_name-b.false
    c.cut-c.result c.cut-c.ensures c.if-from_column-c.false c.cut.result
    c.cut.ensures c.if-cut-target.true))

pub slice_bounds-row-end : goal.slice_bounds-row-end
slice_bounds-row-end c = sym (length-take-le c.cut-a.result c.args.t.now (omega (arith, c.if-t-a.false)))

pub slice_bounds-row-end-2 : goal.slice_bounds-row-end-2
slice_bounds-row-end-2 c =
    sym (length-take-le c.cut-b.result (rest c.args.t.now c.cut-a.result)
    (omega (arith, c.if-from_name-b.false)))

pub slice_bounds-row-end-3 : goal.slice_bounds-row-end-3
slice_bounds-row-end-3 c =
    sym (length-take-le c.cut-c.result
    (rest (rest c.args.t.now c.cut-a.result) c.cut-b.result)
    (omega (arith, c.if-from_column-c.false)))

pub returns : goal.returns
returns c =
    let a = c.args in
    let is = found_four a.t.now c.cut-a.result c.cut-a.ensures c.if-t-a.false
    c.cut-b.result c.cut-b.ensures c.if-from_name-b.false
    c.cut-c.result c.cut-c.ensures c.if-from_column-c.false c.cut.result
    c.cut.ensures c.if-cut-target.false in
    subst
    (λ (f : Option Formed). Lays (judge_by a.at (length a.out.now) f) a.out.now c.row.result
    c.row.new.out)
    (sym is) c.row.ensures
