-- A location that is recorded is found: a pushed row is read back as it was, the rows before it stay, and the lookup
-- of its offset answers it.
-- Assumes nothing.
use Rattle.std.specs.Prelude.{Some}
use Prim.Native.Nat.{ℕ, suc, ◌+◌, ◌*◌, ◌/◌, ◌≤◌, ◌<◌}
use native.Mathlib.Omega.{arith}
use borrow.Author.Count.{below_more}
use borrow.Author.Tests.{le-ltb, ltb-true}
use mathlib.Core.Bool.{false}
use mathlib.Core.List.{List, ◌++◌}
use mathlib.Core.Path.{◌≡◌, ap, sym, subst, ◌∙◌}
use lib.ListN.{length, get_or, take, length-append, get_or-append}
use lib.Seq.{get_or-append-add, get_or-take, length-take-le}
use Rattle.code.proofs.First.{first_is}
use Rattle.code.proofs.Putting.{take_put_all}
use Rattle.code.specs.Rows.{cell}
use Rattle.code.specs.Tables.{location_cells}
use Rattle.code.specs.Locations.{location_count, location_numbers, location_row, push_location, used_locations}
use Rattle.code.specs.Lookups.{RecordedIsFound, first_greater, greater, largest_u32, location_of}
use Rattle.code.specs.declared.LocationRow.{LocationRow}

-- whole rows, and one more
module _ (before : List ℕ) (rows : ℕ) (row : LocationRow) (whole : length before ≡ rows * location_cells) where
  abbrev more : List ℕ
  more = before ++ location_numbers row

  count_more : location_count more ≡ suc rows
  count_more =
      let e : length more ≡ rows * 6 + 6 = length-append before (location_numbers row) ∙ ap (λ (n : ℕ). n + 6) whole in
      omega arith

  cell_last : (k : ℕ) → cell location_cells more rows k ≡ get_or (location_numbers row) k 0
  cell_last k =
      ap (λ (n : ℕ). get_or more (n + k) 0) (sym whole) ∙ get_or-append-add before (location_numbers row) k 0

  -- the last is the row
  row_last : location_row more rows ≡ row
  row_last = λ d.
      record {
        offset = cell_last 0 d;
        start = cell_last 1 d;
        end = cell_last 2 d;
        focus_present = cell_last 3 d;
        focus_start = cell_last 4 d;
        focus_end = cell_last 5 d;
      }

  cell_earlier : (i k : ℕ) → i < rows → k < location_cells → cell location_cells more i k ≡ cell location_cells before i k
  cell_earlier i k lt small =
      get_or-append before (location_numbers row) 0 (i * location_cells + k) (omega arith)

  -- where no offset is greater, the lookup of its offset answers the last
  module _ (small : row.offset ≤ largest_u32)
      (sorted : (i : ℕ) → i < rows → (location_row before i).offset ≤ row.offset) where
    passes : (k : ℕ) → k < rows + 1 → greater more row.offset k ≡ false
    passes =
        below_more (λ k. greater more row.offset k ≡ false) rows
        (λ k lt. le-ltb row.offset (location_row more k).offset
        (omega (arith, cell_earlier k 0 lt (omega arith), sorted k lt)))
        (le-ltb row.offset (location_row more rows).offset (omega (arith, cell_last 0)))

    greater_last : first_greater more row.offset ≡ suc rows
    unfolding first_greater
    greater_last =
        first_is (greater more row.offset) (location_count more) (suc rows)
        (record {
          inside = omega (arith, count_more);
          below = λ k lt. passes k (omega arith);
          hit = λ lt. let no : ⊥ = omega (arith, count_more) in absurd no;
        })

    found_last : location_of more row.offset ≡ Some (rows, row)
    unfolding location_of
    found_last =
        rw (le-ltb largest_u32 row.offset small, greater_last) (ap (λ (r : LocationRow). Some (rows, r)) row_last)

-- a pushed row

module _ (locations : List ℕ) (rows : ℕ) (row : LocationRow)
    (free : rows * location_cells + location_cells ≤ length locations) where
  abbrev before : List ℕ
  before = take (rows * location_cells) locations

  whole : length before ≡ rows * location_cells
  whole = length-take-le (rows * location_cells) locations (omega arith)

  -- the rows then used are those before and the row
  pub used_pushed : used_locations (rows + 1) (push_location rows row locations) ≡ before ++ location_numbers row
  used_pushed =
      let e : (rows + 1) * location_cells ≡ rows * location_cells + location_cells = omega arith in
      ap (λ (n : ℕ). take n (push_location rows row locations)) e
      ∙ take_put_all (rows * location_cells) (location_numbers row) locations (omega arith)

  -- the row is read back as it was
  pub pushed_row : location_row (used_locations (rows + 1) (push_location rows row locations)) rows ≡ row
  pushed_row = rw used_pushed (row_last before rows row whole)

pub recorded_is_found : RecordedIsFound
recorded_is_found locations rows row has small sorted =
    let lt : rows < length locations / location_cells = ltb-true rows (length locations / location_cells) has in
    let free : rows * location_cells + location_cells ≤ length locations = omega arith in
    let u = before locations rows row free in
    rw (used_pushed locations rows row free)
    (found_last u rows row (whole locations rows row free) small
    (λ i lt. subst (λ (n : ℕ). n ≤ row.offset)
    (sym (get_or-take (rows * location_cells) locations (i * location_cells + 0) 0 (omega arith))) (sorted i lt)))
