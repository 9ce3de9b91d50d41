-- `builder::Builder::add_const` meets its contract: its tests are the definition's, and the lent part comes back with
-- the value.
-- Assumes nothing.
use Prim.Native.Nat.{◌+◌, ◌≤◌}
use Rattle.code.proofs.Putting.{put_lent}
use Rattle.builder.specs.Constants.{add_const_of}
use borrow.Author.Tests.{le-leb, le-ltb, lt-leb, lt-ltb}
use lib.ListN.{length}
use mathlib.Core.List.{[], ◌∷◌}
use mathlib.Core.Path.{refl}
use native.Mathlib.Omega.{arith}
use Rattle.builder.proofs.Builder.add_const.Goals as goal

pub returns-then-core-gt-CODE_LIMIT : goal.returns-then-core-gt-CODE_LIMIT
unfolding add_const_of
returns-then-core-gt-CODE_LIMIT c = simp (lt-leb _ _ c.if-core-gt-CODE_LIMIT.true)

pub returns-then-constants-row : goal.returns-then-constants-row
unfolding add_const_of
returns-then-constants-row c = simp (le-leb _ _ c.if-core-gt-CODE_LIMIT.false, lt-leb _ _ c.if-constants-row.true)

pub returns-then-row : goal.returns-then-row
unfolding add_const_of
returns-then-row c = simp (le-leb _ _ c.if-core-gt-CODE_LIMIT.false, le-leb _ _ c.if-constants-row.false, lt-leb _ _ c.if-row.true)

pub returns-then-constants-row-2 : goal.returns-then-constants-row-2
unfolding add_const_of
returns-then-constants-row-2 c =
    simp (
      le-leb _ _ c.if-core-gt-CODE_LIMIT.false,
      le-leb _ _ c.if-constants-row.false,
      le-leb _ _ c.if-row.false,
      le-ltb _ _ c.if-constants-row-2.true,
    )

pub returns : goal.returns
unfolding add_const_of
returns c =
    let a = c.args in
    let h : a.self.constants + 1 ≤ length a.constants.now = omega (arith, c.if-constants-row-2.false) in
    rw (
      le-leb _ _ c.if-core-gt-CODE_LIMIT.false,
      le-leb _ _ c.if-constants-row.false,
      le-leb _ _ c.if-row.false,
      lt-ltb _ _ c.if-constants-row-2.false,
      c.put.ensures,
      put_lent a.self.constants (a.value ∷ []) a.constants.now h,
    ) refl
