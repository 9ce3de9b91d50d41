-- `builder::marks::mark_target` meets its contract: its test is the definition's, and the lent part comes back with
-- the row.
-- Assumes nothing.
use Prim.Native.Nat.{◌*◌, ◌+◌, ◌≤◌}
use Rattle.code.proofs.Putting.{put_lent}
use Rattle.builder.specs.Marks.{mark_row, target_kind}
use Rattle.code.specs.Tables.{mark_cells}
use borrow.Author.Tests.{le-ltb, lt-ltb}
use lib.ListN.{length}
use mathlib.Core.Path.{refl}
use native.Mathlib.Omega.{arith}
use Rattle.builder.proofs.marks.mark_target.Goals as goal

pub returns-then-marks-row : goal.returns-then-marks-row
returns-then-marks-row c = simp (le-ltb _ _ c.if-marks-row.true)

pub returns : goal.returns
returns c =
    let a = c.args in
    let h : a.b.core.marks * mark_cells + 4 ≤ length a.marks.now = omega (arith, c.if-marks-row.false) in
    rw (
      lt-ltb _ _ c.if-marks-row.false,
      c.put.ensures,
      put_lent (a.b.core.marks * mark_cells) (mark_row target_kind a.b.core.code a.d) a.marks.now h,
    ) refl
