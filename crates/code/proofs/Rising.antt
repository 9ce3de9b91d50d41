-- On offsets in rising order the location lookup answers the last row whose offset is not greater, as the Rust's
-- binary search does: equality with the Rust (R58) is over offsets in rising order.
-- Assumes nothing.
use Rattle.code.specs.declared.LocationRow.{LocationRow}
use Rattle.std.specs.Prelude.{Some, None, Option}
use Prim.Native.Nat.{ℕ, zero, suc, ◌≤◌, ◌<◌}
use native.Mathlib.Omega.{arith}
use borrow.Author.Tests.{ltb-true, ltb-false, le-ltb}
use mathlib.Core.List.{List}
use mathlib.Core.Path.{◌≡◌, refl}
use Rattle.code.proofs.First.{IsFirst, is_first}
use Rattle.code.specs.Locations.{location_count, location_row}
use Rattle.code.specs.Lookups.{greater, first_greater, row_before, largest_u32, location_of}

-- the offset of row i
abbrev pub offset_of : List ℕ → ℕ → ℕ
offset_of cells i = (location_row cells i).offset

-- offsets in rising order
abbrev pub Rising : List ℕ → Type 0
Rising cells = (i j : ℕ) → i ≤ j → j < location_count cells → offset_of cells i ≤ offset_of cells j

-- row i is the last whose offset is at most x
pub record LastAtMost (cells : List ℕ) (x i : ℕ) : Type 0 where
  pub inside : i < location_count cells
  pub at_most : offset_of cells i ≤ x
  pub later : (j : ℕ) → i < j → j < location_count cells → x < offset_of cells j

-- the answer is that row, or there is none
abbrev pub AnswersLast : List ℕ → ℕ → Option (ℕ × LocationRow) → Type 0
AnswersLast cells x (Some (i, r)) = (r ≡ location_row cells i) × LastAtMost cells x i
AnswersLast cells x None = (i : ℕ) → i < location_count cells → x < offset_of cells i

module _ (cells : List ℕ) (x : ℕ) (rising : Rising cells) where
  -- the row before the first greater one is the last at most x
  before_first : (n : ℕ) → IsFirst (greater cells x) (location_count cells) n → AnswersLast cells x (row_before cells n)
  before_first zero d = λ i lt.
      omega (arith, ltb-true x (offset_of cells 0) (d.hit (omega arith)), rising 0 i (omega arith) lt)
  before_first (suc i) d = (
    refl,
    record {
      inside = omega arith;
      at_most = ltb-false x (offset_of cells i) (d.below i (omega arith));
      later = λ j lt in_table.
          omega (
            arith,
            ltb-true x (offset_of cells (suc i)) (d.hit (omega arith)),
            rising (suc i) j (omega arith) in_table,
          );
    },
  )

  pub location_rising : x ≤ largest_u32 → AnswersLast cells x (location_of cells x)
  unfolding location_of first_greater
  location_rising small =
      rw (le-ltb largest_u32 x small)
      (before_first (first_greater cells x) (is_first (greater cells x) (location_count cells)))
