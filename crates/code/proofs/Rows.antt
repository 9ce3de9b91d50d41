-- Laws of a table's rows: where their cells stand, and a table that begins with one more row.
-- Assumes nothing.
use Prim.Native.Nat.{ℕ, suc, ◌+◌, ◌*◌, ◌≤◌, ◌<◌}
use native.Mathlib.Nat.{suc-mul, le-div_iff_mul-le, add-div_left}
use native.Mathlib.Numerals.{add-one}
use native.Mathlib.Omega.{arith}
use mathlib.Core.List.{List, ◌++◌}
use mathlib.Core.Path.{◌≡◌, ap, ◌∙◌}
use lib.ListN.{length, get_or, length-append}
use lib.Seq.{get_or-append-add}
use Rattle.code.specs.Rows.{row_count, cell}

-- a row that is counted is there whole
pub row_inside : (w : ℕ) (cells : List ℕ) (i : ℕ) → 0 < w → i < row_count w cells → i * w + w ≤ length cells
row_inside w cells i pos lt =
    omega (arith, suc-mul i w, (le-div_iff_mul-le {x = suc i} {y = length cells} pos).0 (omega arith))

-- and so is each of its cells
pub cell_inside : (w : ℕ) (cells : List ℕ) (i k : ℕ) → i < row_count w cells → k < w → i * w + k < length cells
cell_inside w cells i k lt kw = omega (arith, row_inside w cells i (omega arith) lt)

-- one row more in front
pub count_next : (w : ℕ) (front rest : List ℕ) → 0 < w → length front ≡ w
    → row_count w (front ++ rest) ≡ suc (row_count w rest)
count_next w front rest pos e = rw (length-append, e, add-div_left (length rest) pos) (add-one _)

pub cell_next : (w : ℕ) (front rest : List ℕ) (i k : ℕ) → length front ≡ w
    → cell w (front ++ rest) (suc i) k ≡ cell w rest i k
cell_next w front rest i k e =
    ap (λ (n : ℕ). get_or (front ++ rest) n 0) (omega (arith, suc-mul i w)) ∙ get_or-append-add front rest (i * w + k) 0
