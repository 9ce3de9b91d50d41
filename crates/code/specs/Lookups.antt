-- What the lookups over lent tables answer: R44 to R46; code.rs, `impl Code`.
-- Assumes nothing.
use Rattle.std.specs.Prelude.{◌≡◌, ℕ, zero, suc, ◌+◌, ◌-◌, ◌≤◌, ◌<◌, Bool, true, cond, ◌&&◌, List, [], ◌∷◌, leb, ltb, eqb, length, get_or, Some, None, Option}
use Rattle.code.specs.Rows.{row_count, cell, first}
use Rattle.code.specs.Tables.{exception_cells}
use Rattle.code.specs.Locations.{location_count, location_room, location_row, push_location, used_locations}
use Rattle.code.specs.declared.HandlerRow.{HandlerRow}
use Rattle.code.specs.declared.LocationRow.{LocationRow}

-- is the offset of row i greater?
abbrev pub greater : List ℕ → ℕ → ℕ → Bool
greater cells x i = ltb x (location_row cells i).offset

-- "the first row whose offset is greater", or the number of rows "if none is"
unfoldable pub first_greater : List ℕ → ℕ → ℕ
first_greater cells x = first (greater cells x) (location_count cells)

-- the row before row n; "none if there is no such row"
abbrev pub row_before : List ℕ → ℕ → Option (ℕ × LocationRow)
row_before cells zero = None
row_before cells (suc i) = Some (i, (location_row cells i))

-- the greatest number of a u32
abbrev pub largest_u32 : ℕ
largest_u32 = 4294967295

-- Location: "the row before the first row whose offset is greater, or the last row if none is"; none if "the offset
-- exceeds u32" (R44)
unfoldable pub location_of : List ℕ → ℕ → Option (ℕ × LocationRow)
location_of cells x = cond (ltb largest_u32 x) None (row_before cells (first_greater cells x))

-- what is recorded is found: a row is pushed where there is room and no used row's offset is greater, and the lookup
-- of its offset over the rows then used answers its number and its numbers
abbrev pub RecordedIsFound : Type 0
RecordedIsFound =
    (locations : List ℕ) (rows : ℕ) (row : LocationRow) → location_room rows (length locations) ≡ true
    → row.offset ≤ largest_u32 → ((i : ℕ) → i < rows → (location_row locations i).offset ≤ row.offset)
    → location_of (used_locations (rows + 1) (push_location rows row locations)) row.offset ≡ Some (rows, row)

-- row i of the exception table
abbrev pub handler_row : List ℕ → ℕ → HandlerRow
handler_row cells i =
    record {
      start = cell exception_cells cells i 0;
      end = cell exception_cells cells i 1;
      handler = cell exception_cells cells i 2;
      depth = cell exception_cells cells i 3;
      count = cell exception_cells cells i 4;
      kind = cell exception_cells cells i 5;
    }

-- the cells of such a row
abbrev pub handler_cells : HandlerRow → List ℕ
handler_cells r = r.start ∷ r.end ∷ r.handler ∷ r.depth ∷ r.count ∷ r.kind ∷ []

-- "start <= offset < end"
unfoldable pub covers_of : ℕ → ℕ → ℕ → Bool
covers_of start end x = leb start x && ltb x end

-- does row i cover the offset?
abbrev pub covering : List ℕ → ℕ → ℕ → Bool
covering cells x i = covers_of (handler_row cells i).start (handler_row cells i).end x

-- "the first row, in the order of insertion, with start <= offset < end", or the number of rows
unfoldable pub first_covering : List ℕ → ℕ → ℕ
first_covering cells x = first (covering cells x) (row_count exception_cells cells)

-- Handler: that row (R45)
unfoldable pub handler_of : List ℕ → ℕ → Option (ℕ × HandlerRow)
handler_of cells x =
    cond (ltb (first_covering cells x) (row_count exception_cells cells))
    (Some ((first_covering cells x), (handler_row cells (first_covering cells x))))
    None

-- "A constant past the count is Absent" (R46)
unfoldable pub constant_of : List ℕ → ℕ → Option ℕ
constant_of cells i = cond (ltb i (length cells)) (Some (get_or cells i 0)) None

-- "0 for absent, else the number and one"; a cell "over 4,294,967,296" is absent too
abbrev pub name_in : ℕ → Option ℕ
name_in c = cond (eqb c 0) None (cond (leb c 4294967296) (Some (c - 1)) None)

-- "A slot past the table, or whose cell is 0 or over 4,294,967,296, is Absent" (R46)
unfoldable pub local_name_of : List ℕ → ℕ → Option ℕ
local_name_of cells slot = cond (ltb slot (length cells)) (name_in (get_or cells slot 0)) None
