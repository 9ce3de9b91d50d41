-- What is recorded is found: R33, R44.
-- Assumes nothing.
use Rattle.std.specs.Prelude.{◌≡◌, List, ℕ, ◌≤◌, ◌<◌, Ok, Some, Option}
use Rattle.op.specs.declared.Operand.{Operand}
use Rattle.code.specs.Locations.{location_at, location_row, used_locations}
use Rattle.code.specs.Lookups.{location_of}
use Rattle.code.specs.declared.CodeRange.{CodeRange}
use Rattle.builder.specs.declared.Builder.{Builder}
use Rattle.builder.specs.declared.Core.{Core}
use Rattle.builder.specs.Emission.{emit_named}

-- no used row's offset is past the code's end
abbrev pub Behind : (core : Core) (locations : List ℕ) → Type 0
Behind core locations = (i : ℕ) → i < core.locations → (location_row locations i).offset ≤ core.code

-- the lookup of an instruction's offset, over the rows that are used behind it, answers its location
abbrev pub Finds : (core next : Core) (range : CodeRange) (focus : Option CodeRange) (locations : List ℕ) → Type 0
Finds core next range focus locations =
    location_of (used_locations next.locations locations) core.code
    ≡ Some (core.locations, (location_at core.code range focus))

-- an accepted emission of no jump keeps the rows behind the code's end; a fresh builder has none
abbrev pub EmittedStaysBehind : Type 0
EmittedStaysBehind =
    (builder next : Builder) (opcode name : ℕ) (operand : Operand) (names code locations : List ℕ)
    → Behind builder.core locations
    → (emit_named builder opcode name operand names code locations).answer ≡ Ok next
    → Behind next.core (emit_named builder opcode name operand names code locations).locations

-- and where it is live and a location is set, that location is found
abbrev pub EmittedIsFound : Type 0
EmittedIsFound =
    (builder next : Builder) (here : ℕ) (range : CodeRange) (focus : Option CodeRange)
    (opcode name : ℕ) (operand : Operand) (names code locations : List ℕ)
    → builder.core.depth ≡ Some here → builder.location ≡ Some (record { range = range; focus = focus }) → Behind builder.core locations
    → (emit_named builder opcode name operand names code locations).answer ≡ Ok next
    → Finds builder.core next.core range focus
    (emit_named builder opcode name operand names code locations).locations
