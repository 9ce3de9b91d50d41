-- The builder's state in 17 lent cells, both ways: 0 a call's value; 1 code, 2 locations, 3 marks, 4 depth;
-- 5 exceptions, 6 constants, 7 names, 8 starts; 9 whether a location is set, 10 its start, 11 its end; 12 whether it
-- has a focus, 13 its start, 14 its end; 15 and 16 are neither read nor written. The header says the same in words.
-- Assumes nothing.
use Rattle.code.specs.Locations.{focused, focus_start_of, focus_end_of}
use Rattle.builder.specs.declared.Location.{Location}
use Rattle.code.specs.declared.CodeRange.{CodeRange}
use Rattle.code.specs.declared.HandlerKind.{HandlerKind}
use Rattle.std.specs.Prelude.{cond, List, [], ◌∷◌, ℕ, leb, ltb, eqb, length, get_or, Some, None, Option}
use Rattle.code.specs.declared.HandlerKind.TheVariants.{Consuming, Cleanup}
use Rattle.builder.specs.Answers.{dead_depth, dead_row, depth_number}
use Rattle.builder.specs.declared.Builder.{Builder}
use Rattle.builder.specs.declared.Core.{Core}
use Rattle.builder.specs.declared.JumpLabel.{JumpLabel}
use Rattle.builder.specs.declared.JumpLabel.TheVariants as L
use Rattle.builder.specs.declared.JumpTarget.{JumpTarget}
use Rattle.builder.specs.declared.JumpTarget.TheVariants as T
use Rattle.calls.specs.declared.Place.{Place}

abbrev pub state_cells : ℕ
state_cells = 17

-- the greatest offset of a source
abbrev pub offset_max : ℕ
offset_max = 4294967295

-- reading

abbrev pub depth_in : (number : ℕ) → Option (Option ℕ)
depth_in number =
    cond (ltb number dead_depth) (Some (Some number))
    (cond (eqb number dead_depth) (Some None) None)

abbrev pub label_in : (number : ℕ) → JumpLabel
label_in number = cond (eqb number dead_row) L.Dead (L.Row number)

abbrev pub target_in : (number : ℕ) → JumpTarget
target_in number = cond (eqb number dead_row) T.Dead (T.Row number)

abbrev pub kind_in : (number : ℕ) → Option HandlerKind
kind_in number = cond (eqb number 0) (Some Consuming) (cond (eqb number 1) (Some Cleanup) None)

-- of a focus that is absent the other cells are not read
abbrev pub focus_in : (flag start end : ℕ) → Option (Option CodeRange)
focus_in flag start end =
    cond (eqb flag 0) (Some None)
    (cond (eqb flag 1)
    (cond (leb start offset_max)
    (cond (leb end offset_max) (Some (Some (record { start = start; end = end }))) None)
    None)
    None)

abbrev pub set_in : (start end : ℕ) → Option (Option CodeRange) → Option (Option Location)
set_in start end None = None
set_in start end (Some focus) = Some (Some (record { range = (record { start = start; end = end }); focus = focus }))

-- of a location that is not set the other cells are not read
abbrev pub location_in : (set start end : ℕ) (focus : Option (Option CodeRange)) → Option (Option Location)
location_in set start end focus =
    cond (eqb set 0) (Some None)
    (cond (eqb set 1)
    (cond (leb start offset_max) (cond (leb end offset_max) (set_in start end focus) None) None)
    None)

abbrev pub state_with : Option (Option ℕ) → Option (Option Location) → (cells : List ℕ) → Option Builder
state_with None location cells = None
state_with (Some depth) None cells = None
state_with (Some depth) (Some location) cells = Some (record {
  core = record { code = get_or cells 1 0; locations = get_or cells 2 0; marks = get_or cells 3 0; depth = depth };
  location = location;
  exceptions = get_or cells 5 0;
  constants = get_or cells 6 0;
  names = get_or cells 7 0;
  starts = get_or cells 8 0;
})

-- the state that cells hold; none where they are too few, a flag is neither 0 nor 1, or a depth or an offset is too
-- large (R63)
unfoldable pub state_in : (cells : List ℕ) → Option Builder
state_in cells =
    cond (leb state_cells (length cells))
    (state_with
    (depth_in (get_or cells 4 0))
    (location_in (get_or cells 9 0) (get_or cells 10 0) (get_or cells 11 0)
    (focus_in (get_or cells 12 0) (get_or cells 13 0) (get_or cells 14 0)))
    cells)
    None

-- writing

-- a location's cells; what is not there is 0
abbrev pub place_of : Option Location → Place
place_of None = record { set = 0; start = 0; end = 0; focus = 0; from = 0; to = 0 }
place_of (Some set) = record {
  set = 1;
  start = set.range.start;
  end = set.range.end;
  focus = focused set.focus;
  from = focus_start_of set.focus;
  to = focus_end_of set.focus;
}

abbrev pub place_cells : Place → List ℕ
place_cells place =
    place.set ∷ place.start ∷ place.end ∷ place.focus ∷ place.from ∷ place.to ∷ []

-- a call's value and the core: cells 0 to 4
abbrev pub core_of : (core : Core) (value : ℕ) → List ℕ
core_of core value = value ∷ core.code ∷ core.locations ∷ core.marks ∷ depth_number core.depth ∷ []

-- a call's value and the whole state: cells 0 to 14 (R63)
abbrev pub cells_of : (builder : Builder) (value : ℕ) → List ℕ
cells_of builder value =
    value ∷
    builder.core.code ∷ builder.core.locations ∷ builder.core.marks ∷ depth_number builder.core.depth ∷
    builder.exceptions ∷ builder.constants ∷ builder.names ∷ builder.starts ∷
    place_cells (place_of builder.location)
