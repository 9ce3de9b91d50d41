-- Cells of depths: "65,536 where there is no depth" (R50).
-- Assumes nothing.
use Rattle.std.specs.Prelude.{cond, List, [], ◌∷◌, ℕ, ◌+◌, leb, get_or, None, Option, Some}
use Rattle.op.specs.Depths.{deepest}
use Rattle.code.specs.Tables.{no_depth}

-- the number in the cell of an offset
abbrev pub cell : List ℕ → ℕ → ℕ
cell c o = get_or c o no_depth

-- the cells as an assignment
unfoldable pub depth_in : List ℕ → ℕ → Option ℕ
depth_in c o = cond (leb (cell c o) deepest) (Some (cell c o)) None

-- how many cells hold a depth
unfoldable pub held : List ℕ → ℕ
held [] = 0
held (x ∷ xs) = cond (leb x deepest) 1 0 + held xs
