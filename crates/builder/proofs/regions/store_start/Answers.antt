-- `builder::regions::store_start` meets its contract: its test is the definition's, and the lent part comes back with
-- the start.
-- Assumes nothing.
use Prim.Native.Nat.{◌*◌, ◌+◌, ◌≤◌}
use Rattle.code.proofs.Putting.{put_lent}
use Rattle.code.specs.Tables.{start_cells}
use borrow.Author.Tests.{le-ltb, lt-ltb}
use lib.ListN.{length}
use mathlib.Core.List.{[], ◌∷◌}
use mathlib.Core.Path.{refl}
use native.Mathlib.Omega.{arith}
use Rattle.builder.proofs.regions.store_start.Goals as goal

pub returns-then-starts-row : goal.returns-then-starts-row
returns-then-starts-row c = simp (le-ltb _ _ c.if-starts-row.true)

pub returns : goal.returns
returns c =
    let a = c.args in
    let h : a.b.starts * start_cells + 2 ≤ length a.starts.now = omega (arith, c.if-starts-row.false) in
    rw (
      lt-ltb _ _ c.if-starts-row.false,
      c.put.ensures,
      put_lent (a.b.starts * start_cells) (a.b.core.code ∷ a.d ∷ []) a.starts.now h,
    )
    refl
