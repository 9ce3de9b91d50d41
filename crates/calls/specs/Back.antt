-- What is written is read back: a state's cells hold that state, and cells whose front a call wrote, which changes the
-- core alone, hold the same state with the new core. The numbers are within their types, as every builder's are.
-- Assumes nothing.
use Rattle.builder.specs.declared.Location.{Location}
use Rattle.std.specs.Prelude.{◌≡◌, List, ℕ, ◌≤◌, ◌<◌, length, Some, None, Option}
use Rattle.code.specs.Bytes.{front}
use Rattle.code.specs.declared.CodeRange.{CodeRange}
use Rattle.builder.specs.Answers.{dead_depth}
use Rattle.builder.specs.State.{with_core}
use Rattle.builder.specs.declared.Builder.{Builder}
use Rattle.builder.specs.declared.Core.{Core}
use Rattle.calls.specs.State.{cells_of, core_of, offset_max, state_cells, state_in}

abbrev pub DepthFits : Option ℕ → Type 0
DepthFits None = Unit {0}
DepthFits (Some depth) = depth < dead_depth

abbrev pub RangeFits : CodeRange → Type 0
RangeFits range = (range.start ≤ offset_max) × (range.end ≤ offset_max)

abbrev pub FocusFits : Option CodeRange → Type 0
FocusFits None = Unit {0}
FocusFits (Some focus) = RangeFits focus

abbrev pub LocationFits : Option Location → Type 0
LocationFits None = Unit {0}
LocationFits (Some set) = RangeFits set.range × FocusFits set.focus

abbrev pub StateBack : Type 0
StateBack =
    (builder : Builder) (value : ℕ) (cells : List ℕ) → state_cells ≤ length cells
    → DepthFits builder.core.depth → LocationFits builder.location
    → state_in (front (cells_of builder value) cells) ≡ Some builder

abbrev pub CoreBack : Type 0
CoreBack =
    (builder : Builder) (core : Core) (value : ℕ) (cells : List ℕ) → DepthFits core.depth
    → state_in cells ≡ Some builder → state_in (front (core_of core value) cells) ≡ Some (with_core builder core)
