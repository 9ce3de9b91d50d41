-- `builder::Builder::add_exception_entry` meets its contract: its tests are the definition's, and the lent part comes
-- back with the row.
-- Assumes nothing.
use Prim.Native.Nat.{◌*◌, ◌+◌, ◌≤◌, ℕ}
use Rattle.base.proofs.Bools.{and_true}
use Rattle.code.proofs.Putting.{put_lent}
use Rattle.builder.specs.Exceptions.{add_exception_of, exception_row, offset_max, offsets_fit}
use Rattle.code.specs.Tables.{exception_cells}
use borrow.Author.Tests.{le-leb, le-ltb, leb-true, lt-leb, lt-ltb}
use lib.Dec.{leb}
use lib.ListN.{length}
use mathlib.Core.Bool.{true}
use mathlib.Core.Path.{◌∙◌, ◌≡◌, refl, sym}
use native.Mathlib.Omega.{arith}
use mathlib.Core.Bool.{◌&&◌}
use Rattle.builder.proofs.Builder.add_exception_entry.Goals as goal

-- the offsets fit their cells
small : (start end handler : ℕ) → offsets_fit start end handler ≡ true
    → (start ≤ offset_max) × (end ≤ offset_max) × (handler ≤ offset_max)
unfolding offsets_fit
small start end handler e =
    let p = and_true (leb start offset_max && leb end offset_max) (leb handler offset_max) e in
    let q = and_true (leb start offset_max) (leb end offset_max) p.0 in
    (leb-true _ _ q.0, leb-true _ _ q.1, leb-true _ _ p.1)

pub returns-then-core-gt-CODE_LIMIT : goal.returns-then-core-gt-CODE_LIMIT
unfolding add_exception_of
returns-then-core-gt-CODE_LIMIT c = simp (lt-leb _ _ c.if-core-gt-CODE_LIMIT.true)

pub returns-then-exceptions-row : goal.returns-then-exceptions-row
unfolding add_exception_of
returns-then-exceptions-row c = simp (le-leb _ _ c.if-core-gt-CODE_LIMIT.false, lt-leb _ _ c.if-exceptions-row.true)

pub returns-then-not-offsets_fit : goal.returns-then-not-offsets_fit
unfolding add_exception_of
returns-then-not-offsets_fit c =
    simp (
      le-leb _ _ c.if-core-gt-CODE_LIMIT.false,
      le-leb _ _ c.if-exceptions-row.false,
      sym c.offsets_fit.ensures ∙ c.if-not-offsets_fit.true,
    )

pub returns-then-exceptions-row-2 : goal.returns-then-exceptions-row-2
unfolding add_exception_of
returns-then-exceptions-row-2 c =
    simp (
      le-leb _ _ c.if-core-gt-CODE_LIMIT.false,
      le-leb _ _ c.if-exceptions-row.false,
      sym c.offsets_fit.ensures ∙ c.if-not-offsets_fit.false,
      le-ltb _ _ c.if-exceptions-row-2.true,
    )

pub overflow_cast-start : goal.overflow_cast-start
overflow_cast-start c = omega (arith, small _ _ _ (sym c.offsets_fit.ensures ∙ c.if-not-offsets_fit.false))

pub overflow_cast-end : goal.overflow_cast-end
overflow_cast-end c = omega (arith, small _ _ _ (sym c.offsets_fit.ensures ∙ c.if-not-offsets_fit.false))

pub overflow_cast-handler : goal.overflow_cast-handler
overflow_cast-handler c = omega (arith, small _ _ _ (sym c.offsets_fit.ensures ∙ c.if-not-offsets_fit.false))

pub returns : goal.returns
unfolding add_exception_of
returns c =
    let a = c.args in
    let row = exception_row a.start a.end a.handler a.stack_depth a.exception_stack_count a.kind in
    let h : a.self.exceptions * exception_cells + 6 ≤ length a.exceptions.now = omega (arith, c.if-exceptions-row-2.false) in
    rw (
      le-leb _ _ c.if-core-gt-CODE_LIMIT.false,
      le-leb _ _ c.if-exceptions-row.false,
      sym c.offsets_fit.ensures ∙ c.if-not-offsets_fit.false,
      lt-ltb _ _ c.if-exceptions-row-2.false,
      c.put.ensures,
      c.from.ensures,
      put_lent (a.self.exceptions * exception_cells) row a.exceptions.now h,
    ) refl
