-- The state around a change, and the answer of a call that is lent one table: R30,
-- "19, their own refusals, 18".
-- Assumes nothing.
use Rattle.std.specs.Prelude.{cond, ◌&&◌, Bool, true, false, List, ℕ, Ok, Err, Some, None, Result, Option}
use Rattle.op.specs.declared.Refusal.{Refusal}
use Rattle.builder.specs.declared.Builder.{Builder}
use Rattle.builder.specs.declared.Core.{Core}
use Rattle.code.specs.Tables.{within_limit}

-- the same state with another core
abbrev pub with_core : (builder : Builder) (core : Core) → Builder
with_core builder core = record {
  core = core;
  location = builder.location;
  exceptions = builder.exceptions;
  constants = builder.constants;
  names = builder.names;
  starts = builder.starts;
}

-- the state around an answer of the core
abbrev pub answer_by : (builder : Builder) → Result Core Refusal → Result Builder Refusal
answer_by builder (Ok core) = Ok (with_core builder core)
answer_by builder (Err refusal) = Err refusal

-- the same core with another count of marks
abbrev pub with_marks : (core : Core) (marks : ℕ) → Core
with_marks core marks = record { code = core.code; locations = core.locations; marks = marks; depth = core.depth }

-- the same core with another depth
abbrev pub with_depth : (core : Core) (depth : Option ℕ) → Core
with_depth core depth = record { code = core.code; locations = core.locations; marks = core.marks; depth = depth }

-- whether the code is dead (R43)
abbrev pub dead_of : Option ℕ → Bool
dead_of None = true
dead_of (Some depth) = false

-- the answer of a call, and the one table that it was lent to change
pub record Kept : Type 0 where
  pub answer : Result Builder Refusal
  pub cells : List ℕ

abbrev pub kept : (answer : Result Builder Refusal) (cells : List ℕ) → Kept
kept answer cells = record { answer = answer; cells = cells }

-- go on where the test holds, else refuse and change nothing (R30)
abbrev pub unless : (test : Bool) (refusal : Refusal) (cells : List ℕ) → Kept → Kept
unless test refusal cells on = cond test on (kept (Err refusal) cells)

-- 19 of a call that is lent no code: "the code's count 1,048,576", and its own count (R30)
abbrev pub counts_of : (builder : Builder) (own : Bool) → Bool
counts_of builder own = within_limit builder.core.code && own
