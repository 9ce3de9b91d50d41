-- The names of local slots, and `build`: R23, R40, R43, refusals 16 and 17 (R27).
-- Assumes nothing.
use Rattle.std.specs.Prelude.{cond, ◌&&◌, List, [], ◌∷◌, ◌++◌, map, ℕ, ◌+◌, ◌-◌, leb, ltb, eqb, length, take, drop, get_or, set, replicate, Ok, Err}
use Rattle.op.specs.declared.Refusal.TheVariants.{NamesHeld, OpenLabel, Full, Unsound}
use Rattle.op.specs.declared.Table.TheVariants.{Names}
use Rattle.builder.specs.declared.Builder.{Builder}
use Rattle.code.specs.Tables.{cell_room, cells_within, mark_cells, put, within}
use Rattle.builder.specs.State.{Kept, counts_of, kept, unless}
use Rattle.builder.specs.Marks.{any_open}

-- the same state with so many names
abbrev pub with_names : (builder : Builder) (names : ℕ) → Builder
with_names builder names = record {
  core = builder.core;
  location = builder.location;
  exceptions = builder.exceptions;
  constants = builder.constants;
  names = names;
  starts = builder.starts;
}

-- a name's cell: "0 for absent, else the number and one" (R23)
abbrev pub name_cell : (name : ℕ) → ℕ
name_cell name = name + 1

-- 19, 16, 18; the names of slots 0, 1, .. (R40)
unfoldable pub register_names_of : (builder : Builder) (names cells : List ℕ) → Kept
register_names_of builder names cells =
    unless (counts_of builder (cells_within builder.names (length cells))) Unsound cells
    (unless (eqb builder.names 0) NamesHeld cells
    (unless (leb (length names) (length cells)) (Full Names) cells
    (kept (Ok (with_names builder (length names))) (put 0 (map name_cell names) cells))))

-- "extends with absent slots"
abbrev pub extension : (absent name : ℕ) → List ℕ
extension absent name = replicate absent 0 ++ name_cell name ∷ []

-- "and never overwrites a name"
abbrev pub named : (cell name : ℕ) → ℕ
named cell name = cond (eqb cell 0) (name_cell name) cell

-- 19, 18; a slot that is held, or one past them (R40)
unfoldable pub register_name_of : (builder : Builder) (slot name : ℕ) (cells : List ℕ) → Kept
register_name_of builder slot name cells =
    unless (counts_of builder (cells_within builder.names (length cells))) Unsound cells
    (cond (ltb slot builder.names)
    (kept (Ok builder) (set cells slot (named (get_or cells slot 0) name)))
    (unless (cell_room slot (length cells)) (Full Names) cells
    (kept
    (Ok (with_names builder (slot + 1)))
    (put builder.names (extension (slot - builder.names) name) cells))))

-- "a told name", in the used cells
abbrev pub filled_names : (held name : ℕ) (cells : List ℕ) → List ℕ
filled_names held name cells = map (λ (cell : ℕ). named cell name) (take held cells) ++ drop held cells

-- 19, 17 (R43)
unfoldable pub build_of : (builder : Builder) (name : ℕ) (cells marks : List ℕ) → Kept
build_of builder name cells marks =
    unless
    (counts_of builder (cells_within builder.names (length cells)
    && within mark_cells builder.core.marks (length marks)))
    Unsound cells
    (cond (any_open builder.core.marks marks)
    (kept (Err OpenLabel) cells)
    (kept (Ok builder) (filled_names builder.names name cells)))
