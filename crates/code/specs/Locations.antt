-- The location table: its row as numbers and as cells, and all that is done with the table: R21. Who records or looks
-- up locations knows them by these definitions alone.
-- Assumes nothing.
use Rattle.std.specs.Prelude.{Bool, List, [], ◌∷◌, ℕ, Some, None, Option}
use Rattle.code.specs.Rows.{row_count, cell}
use Rattle.code.specs.Tables.{location_cells, push, room, used, within}
use Rattle.code.specs.declared.CodeRange.{CodeRange}
use Rattle.code.specs.declared.LocationRow.{LocationRow}

-- "focus present 0 or 1, focus start and end, the last two 0 without focus"
abbrev pub focused : Option CodeRange → ℕ
focused None = 0
focused (Some range) = 1

abbrev pub focus_start_of : Option CodeRange → ℕ
focus_start_of None = 0
focus_start_of (Some range) = range.start

abbrev pub focus_end_of : Option CodeRange → ℕ
focus_end_of None = 0
focus_end_of (Some range) = range.end

-- the row of a location at an offset (R21)
abbrev pub location_at : (offset : ℕ) (range : CodeRange) (focus : Option CodeRange) → LocationRow
location_at offset range focus =
    record {
      offset = offset;
      start = range.start;
      end = range.end;
      focus_present = focused focus;
      focus_start = focus_start_of focus;
      focus_end = focus_end_of focus;
    }

-- a row as cells: "offset, range start and end, focus present 0 or 1, focus start and end" (R21)
abbrev pub location_numbers : LocationRow → List ℕ
location_numbers row =
    row.offset ∷ row.start ∷ row.end ∷ row.focus_present ∷ row.focus_start ∷ row.focus_end ∷ []

-- and back: row i of the table
abbrev pub location_row : (locations : List ℕ) (i : ℕ) → LocationRow
location_row locations i =
    record {
      offset = cell location_cells locations i 0;
      start = cell location_cells locations i 1;
      end = cell location_cells locations i 2;
      focus_present = cell location_cells locations i 3;
      focus_start = cell location_cells locations i 4;
      focus_end = cell location_cells locations i 5;
    }

-- the rows that a table has
abbrev pub location_count : (locations : List ℕ) → ℕ
location_count locations = row_count location_cells locations

-- 19 of the locations
abbrev pub locations_within : (rows cells : ℕ) → Bool
locations_within rows cells = within location_cells rows cells

-- 18 of the locations
abbrev pub location_room : (rows cells : ℕ) → Bool
location_room rows cells = room location_cells rows cells

-- "Each is lent just the used rows"
abbrev pub used_locations : (rows : ℕ) (locations : List ℕ) → List ℕ
used_locations rows locations = used location_cells rows locations

-- the table with a row at its used end
abbrev pub push_location : (rows : ℕ) (row : LocationRow) (locations : List ℕ) → List ℕ
push_location rows row locations = push location_cells rows (location_numbers row) locations
