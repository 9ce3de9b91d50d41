-- What the lookups tell: a row's number and its six numbers, a constant, a name's number.
-- Assumes nothing.
use Rattle.code.specs.declared.HandlerRow.{HandlerRow}
use Rattle.code.specs.declared.LocationRow.{LocationRow}
use Rattle.std.specs.Prelude.{[], ◌∷◌, Some, None, Option, ℕ}
use Rattle.code.specs.Locations.{location_numbers}
use Rattle.code.specs.Lookups.{handler_cells}
use Rattle.api.specs.Told.{Told, numbers, nothing}

-- a location
abbrev pub located_told : Option (ℕ × LocationRow) → Told
located_told (Some (i, row)) = numbers (i ∷ location_numbers row)
located_told None = nothing

-- a handler
abbrev pub handled_told : Option (ℕ × HandlerRow) → Told
handled_told (Some (i, row)) = numbers (i ∷ handler_cells row)
handled_told None = nothing

-- a constant
abbrev pub constant_told : Option ℕ → Told
constant_told (Some v) = numbers (v ∷ [])
constant_told None = nothing

-- a local slot's name
abbrev pub name_told : Option ℕ → Told
name_told (Some n) = numbers (n ∷ [])
name_told None = nothing
