-- `code::lookups::location_for_offset` meets its contract: the scan's answer is at most the number of rows, and the
-- row before it is answered.
-- Assumes nothing.
use Rattle.std.specs.Prelude.{Some}
use Prim.Native.Nat.{ℕ, zero, suc, ◌-◌, ◌≤◌}
use borrow.Author.Tests.{lt-ltb, le-ltb}
use mathlib.Core.List.{List}
use mathlib.Core.Path.{◌≡◌, refl}
use native.Mathlib.Omega.{arith}
use Rattle.code.specs.Locations.{location_count, location_row}
use Rattle.code.specs.Lookups.{greater, first_greater, row_before, location_of}
use Rattle.code.proofs.First.{is_first}
use Rattle.code.proofs.lookups.location_for_offset.Goals as goal

greater_inside : (cells : List ℕ) (x : ℕ) → first_greater cells x ≤ location_count cells
unfolding first_greater
greater_inside cells x = (is_first (greater cells x) (location_count cells)).inside

before_is : (cells : List ℕ) (n : ℕ) → (n ≡ 0 → ⊥) → row_before cells n ≡ Some ((n - 1), (location_row cells (n - 1)))
before_is cells zero some = absurd (some refl)
before_is cells (suc i) some = let e : suc i - 1 ≡ i = omega arith in rw e

pub returns-then-offset-gt-LARGEST_U32 : goal.returns-then-offset-gt-LARGEST_U32
unfolding location_of
returns-then-offset-gt-LARGEST_U32 c = simp (lt-ltb _ _ c.if-offset-gt-LARGEST_U32.true)

pub returns-in_err-row : goal.returns-in_err-row
unfolding location_of
returns-in_err-row c =
    let none : c.first_greater.result ≡ 0 = omega (arith, c.in_err-row.ensures) in
    rw c.from_residual.ensures (simp (← c.first_greater.ensures, le-ltb _ _ c.if-offset-gt-LARGEST_U32.false, none))

pub location_row-requires : goal.location_row-requires
location_row-requires c =
    omega (arith, greater_inside c.args.rows.now c.args.offset, c.first_greater.ensures, c.in_ok-row.ensures)

pub returns : goal.returns
unfolding location_of
returns c =
    let n = c.in_ok-row.ensures in
    simp (
      ← c.first_greater.ensures,
      le-ltb _ _ c.if-offset-gt-LARGEST_U32.false,
      before_is c.args.rows.now c.first_greater.result (λ z. omega (arith, n, z)),
      c.location_row.ensures,
      n.1,
    )
