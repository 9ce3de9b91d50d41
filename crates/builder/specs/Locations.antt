-- Source locations: R21, R32, R33, "one location row if a location is set".
-- Assumes nothing.
use Rattle.builder.specs.declared.Location.{Location}
use Rattle.std.specs.Prelude.{Bool, true, List, ℕ, ◌+◌, Some, None, Option}
use Rattle.code.specs.Locations.{location_at, location_room, push_location}
use Rattle.code.specs.declared.CodeRange.{CodeRange}
use Rattle.builder.specs.declared.Builder.{Builder}

-- the location table after an instruction at an offset
abbrev pub locations_after : Option Location → (rows offset : ℕ) (locations : List ℕ) → List ℕ
locations_after None rows offset locations = locations
locations_after (Some set) rows offset locations =
    push_location rows (location_at offset set.range set.focus) locations

-- and its used rows
abbrev pub rows_after : Option Location → (rows : ℕ) → ℕ
rows_after None rows = rows
rows_after (Some set) rows = rows + 1

-- "one location row if a location is set"
abbrev pub row_fits : Option Location → (rows locations : ℕ) → Bool
row_fits None rows locations = true
row_fits (Some set) rows locations = location_room rows locations

-- builder.rs, `current_position`: the range, or "0 and 0 before one is set" (R32)
abbrev pub position_of : Option Location → CodeRange
position_of None = record { start = 0; end = 0 }
position_of (Some set) = set.range

-- the same state with another location (R32)
abbrev pub with_location : (builder : Builder) (location : Option Location) → Builder
with_location builder location = record {
  core = builder.core;
  location = location;
  exceptions = builder.exceptions;
  constants = builder.constants;
  names = builder.names;
  starts = builder.starts;
}
