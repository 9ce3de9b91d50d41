-- Lent tables as rows of w cells: "six numbers a row", "four numbers a row" (R21 to R25), "a part row
-- behind them is skipped" (R44 to R46).
-- Assumes nothing.
use Rattle.std.specs.Prelude.{ℕ, zero, suc, ◌+◌, ◌*◌, ◌/◌, Bool, cond, List, length, get_or, take, drop}

-- how many whole rows a table has: a trailing part row is skipped
abbrev pub row_count : ℕ → List ℕ → ℕ
row_count w cells = length cells / w

-- cell k of row i
abbrev pub cell : ℕ → List ℕ → ℕ → ℕ → ℕ
cell w cells i k = get_or cells (i * w + k) 0

-- all cells of row i
unfoldable pub row : ℕ → List ℕ → ℕ → List ℕ
row w cells i = take w (drop (i * w) cells)

-- the first of the rows 0 to n - 1 that passes a test, or n if none does
unfoldable pub first : (ℕ → Bool) → ℕ → ℕ
first test zero = zero
first test (suc n) = cond (test zero) zero (suc (first (λ i. test (suc i)) n))
