-- Regions: R25, R31, R42.
-- Assumes nothing.
use Rattle.std.specs.Prelude.{List, [], ◌∷◌, ℕ, ◌+◌, length, Ok, Err, Some, None, Option}
use Rattle.op.specs.declared.Refusal.TheVariants.{RegionWhileLive, Full, Unsound}
use Rattle.op.specs.declared.Table.TheVariants.{Starts}
use Rattle.builder.specs.declared.Builder.{Builder}
use Rattle.code.specs.Tables.{push, put, room, within, start_cells}
use Rattle.builder.specs.State.{Kept, counts_of, kept, unless, with_depth}

-- a builder with nothing in it
abbrev pub fresh_at : (depth : Option ℕ) (starts : ℕ) → Builder
fresh_at depth starts = record {
  core = record { code = 0; locations = 0; marks = 0; depth = depth };
  location = None;
  exceptions = 0;
  constants = 0;
  names = 0;
  starts = starts;
}

-- "dead, or live at a depth with the start (0, depth) stored; 18 where there is no room for it" (R25, R31)
unfoldable pub new_of : (told : Option ℕ) (starts : List ℕ) → Kept
new_of None starts = kept (Ok (fresh_at None 0)) starts
new_of (Some depth) starts =
    unless (room start_cells 0 (length starts)) (Full Starts) starts
    (kept (Ok (fresh_at (Some depth) 1)) (put 0 (0 ∷ depth ∷ []) starts))

-- the same state with so many starts, live at a depth
abbrev pub opened : (builder : Builder) (depth starts : ℕ) → Builder
opened builder depth starts = record {
  core = with_depth builder.core (Some depth);
  location = builder.location;
  exceptions = builder.exceptions;
  constants = builder.constants;
  names = builder.names;
  starts = starts;
}

-- 15, 18
abbrev pub region_at : (here : Option ℕ) (builder : Builder) (depth : ℕ) (starts : List ℕ) → Kept
region_at (Some here) builder depth starts = kept (Err RegionWhileLive) starts
region_at None builder depth starts =
    unless (room start_cells builder.starts (length starts)) (Full Starts) starts
    (kept
    (Ok (opened builder depth (builder.starts + 1)))
    (push start_cells builder.starts (builder.core.code ∷ depth ∷ []) starts))

-- "opens live code at a told depth in dead code and stores a start" (R25, R42)
unfoldable pub region_of : (builder : Builder) (depth : ℕ) (starts : List ℕ) → Kept
region_of builder depth starts =
    unless (counts_of builder (within start_cells builder.starts (length starts))) Unsound starts
    (region_at builder.core.depth builder depth starts)
