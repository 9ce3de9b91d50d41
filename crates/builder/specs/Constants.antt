-- Constants: R23, R41, refusal 9 (R27).
-- Assumes nothing.
use Rattle.op.specs.declared.Refusal.{Refusal}
use Rattle.std.specs.Prelude.{cond, List, [], ◌∷◌, ℕ, ◌+◌, leb, length, Ok, Err, Result}
use Rattle.op.specs.declared.Refusal.TheVariants.{TooManyConstants, Full, Unsound}
use Rattle.op.specs.declared.Table.TheVariants.{Constants}
use Rattle.builder.specs.declared.Builder.{Builder}
use Rattle.code.specs.Tables.{cell_room, cells_within, put, word_max}
use Rattle.builder.specs.State.{counts_of}

-- the answer, and the constants as the call leaves them
pub record AddedKept : Type 0 where
  pub answer : Result (Builder × ℕ) Refusal
  pub cells : List ℕ

abbrev pub added_kept : (answer : Result (Builder × ℕ) Refusal) (cells : List ℕ) → AddedKept
added_kept answer cells = record { answer = answer; cells = cells }

-- the same state with so many constants
abbrev pub with_constants : (builder : Builder) (constants : ℕ) → Builder
with_constants builder constants = record {
  core = builder.core;
  location = builder.location;
  exceptions = builder.exceptions;
  constants = constants;
  names = builder.names;
  starts = builder.starts;
}

-- 19, "65,536 or more constants are held", 18; the value at the used end, and its index (R23, R41)
unfoldable pub add_const_of : (builder : Builder) (value : ℕ) (cells : List ℕ) → AddedKept
add_const_of builder value cells =
    cond (counts_of builder (cells_within builder.constants (length cells)))
    (cond (leb builder.constants word_max)
    (cond (cell_room builder.constants (length cells))
    (added_kept
    (Ok ((with_constants builder (builder.constants + 1)), builder.constants))
    (put builder.constants (value ∷ []) cells))
    (added_kept (Err (Full Constants)) cells))
    (added_kept (Err TooManyConstants) cells))
    (added_kept (Err Unsound) cells)
