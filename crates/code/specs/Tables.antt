-- The lent tables: limits, widths, what is used, what is within a table, and what a store changes: R20 to
-- R26, refusals 18 and 19 (R27).
-- Assumes nothing.
use Rattle.std.specs.Prelude.{Bool, ◌&&◌, List, ◌++◌, ℕ, ◌+◌, ◌-◌, ◌*◌, ◌/◌, leb, ltb, length, take, drop}
use Rattle.op.specs.Depths.{deepest}

-- limits

-- "at most the first 1,048,576 are used" (R20)
abbrev pub code_limit : ℕ
code_limit = 1048576

-- refusals 8, 9, 19: the greatest name, constant index and depth
abbrev pub word_max : ℕ
word_max = deepest

-- "65,536 where there is no depth": what a depth slice holds where there is no depth
abbrev pub no_depth : ℕ
no_depth = 65536

-- widths

-- "Locations: six numbers a row"
abbrev pub location_cells : ℕ
location_cells = 6

-- "Exceptions: six numbers a row"
abbrev pub exception_cells : ℕ
exception_cells = 6

-- "Marks: four numbers a row"
abbrev pub mark_cells : ℕ
mark_cells = 4

-- "Starts: two numbers a row"
abbrev pub start_cells : ℕ
start_cells = 2

-- "U16, Offset, U8U8 3": the bytes of a jump
abbrev pub jump_size : ℕ
jump_size = 3

-- counts

-- 19, "a count exceeds its lent table": so many rows of a width are within so many cells
abbrev pub within : (width rows cells : ℕ) → Bool
within width rows cells = leb rows (cells / width)

-- 19 of a table with one cell a row: code, constants, names
abbrev pub cells_within : (used cells : ℕ) → Bool
cells_within used cells = leb used cells

-- 19, "the code's count 1,048,576"
abbrev pub within_limit : (bytes : ℕ) → Bool
within_limit bytes = cells_within bytes code_limit

-- 19 of code that is lent
abbrev pub code_within : (bytes cells : ℕ) → Bool
code_within bytes cells = cells_within bytes cells && within_limit bytes

-- 18, "no room": there is room for one row more
abbrev pub room : (width rows cells : ℕ) → Bool
room width rows cells = ltb rows (cells / width)

-- 18 of a table with one cell a row
abbrev pub cell_room : (used cells : ℕ) → Bool
cell_room used cells = ltb used cells

-- 18 of the code: so many bytes more are left of what is lent, and of the limit
abbrev pub code_room : (bytes cells size : ℕ) → Bool
code_room bytes cells size = leb size (cells - bytes) && leb size (code_limit - bytes)

-- cells

-- the used cells of a table of so many rows
abbrev pub used : (width rows : ℕ) (table : List ℕ) → List ℕ
used width rows table = take (rows * width) table

-- a table with new cells from a place on, and nothing else changed (R26)
unfoldable pub put : (at : ℕ) (new table : List ℕ) → List ℕ
put at new table = take at table ++ new ++ drop (at + length new) table

-- a table with a row at its used end
abbrev pub push : (width rows : ℕ) (row table : List ℕ) → List ℕ
push width rows row table = put (rows * width) row table
