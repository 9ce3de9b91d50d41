-- `builder::names::fill_absent` meets its contract: the invariant says that the cells passed are filled, and the
-- others as they were.
-- Assumes nothing.
use Prim.Native.Nat.{ℕ}
use Rattle.builder.proofs.Naming.{front_rest, map_all, map_more, map_own, passed}
use Rattle.builder.specs.Names.{named}
use lib.ListN.{get_or, take}
use mathlib.Core.List.{map}
use mathlib.Core.Path.{◌∙◌, ◌≡◌, refl}
use native.Mathlib.Omega.{arith}
use Rattle.builder.proofs.names.fill_absent.Goals as goal

pub loop-cell-init : goal.loop-cell-init
loop-cell-init c = refl

pub loop-cell-preserved : goal.loop-cell-preserved
loop-cell-preserved c =
    let l = c.loop-cell in
    let a = c.args in
    let f : ℕ → ℕ = λ (cell : ℕ). named cell a.name in
    let e : get_or l.cell-items l.cell-index 0 ≡ get_or a.cells.now l.cell-index 0 = rw l.invariant
    (front_rest (map f (take l.cell-index a.cells.now)) a.cells.now l.cell-index
    (passed f a.cells.now a.cells.now l.cell-index (omega arith))) in
    rw (c.named_cell.ensures, e, l.invariant)
    (map_more f a.cells.now a.cells.now l.cell-index (omega arith) (omega arith))

pub returns : goal.returns
returns c =
    let l = c.loop-cell in
    let a = c.args in
    let f : ℕ → ℕ = λ (cell : ℕ). named cell a.name in
    l.invariant ∙ map_all f a.cells.now a.cells.now l.cell-index (omega arith) ∙ map_own f a.cells.now
