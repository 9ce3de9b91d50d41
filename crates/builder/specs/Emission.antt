-- The model of emission: answer, state and tables after an emitting call: builder.rs, `emit_with_operand` and the calls
-- over it.
-- Assumes nothing.
use Rattle.builder.specs.Plan.{Decision}
use Rattle.builder.specs.declared.Location.{Location}
use Rattle.op.specs.declared.Refusal.{Refusal}
use Rattle.std.specs.Prelude.{cond, List, ℕ, ◌+◌, leb, length, Ok, Err, Some, None, Result, Option}
use Rattle.op.specs.Chosen.{LoadLocal0, LoadLocal, LoadLocalW, StoreLocal, StoreLocalW}
use Rattle.op.specs.declared.Operand.{Operand}
use Rattle.op.specs.declared.Operand.TheVariants as O
use Rattle.code.specs.Encode.{encode}
use Rattle.builder.specs.declared.Builder.{Builder}
use Rattle.builder.specs.declared.Core.{Core}
use Rattle.code.specs.Tables.{put}
use Rattle.builder.specs.State.{answer_by}
use Rattle.builder.specs.Locations.{locations_after, rows_after}
use Rattle.builder.specs.Plan.{plan_of}

-- the core with so many location rows, after an instruction of so many bytes
abbrev pub core_with : (core : Core) (rows size : ℕ) (after : Option ℕ) → Core
core_with core rows size after = record {
  code = core.code + size;
  locations = rows;
  marks = core.marks;
  depth = after;
}

-- the same, the location's row counted
abbrev pub core_after : (core : Core) (location : Option Location) (size : ℕ) (after : Option ℕ) → Core
core_after core location size after = core_with core (rows_after location core.locations) size after

-- the answer of the core, and code and locations as the call leaves them
pub record CoreOutcome : Type 0 where
  pub answer : Result Core Refusal
  pub code : List ℕ
  pub locations : List ℕ

abbrev pub core_outcome : (answer : Result Core Refusal) (code locations : List ℕ) → CoreOutcome
core_outcome answer code locations = record { answer = answer; code = code; locations = locations }

-- what a plan comes to: the bytes at the used end and a location's row, or no change (R33)
abbrev pub commit_of : Decision → (core : Core) (location : Option Location) (bytes code locations : List ℕ) → CoreOutcome
commit_of (Ok None) core location bytes code locations = core_outcome (Ok core) code locations
commit_of (Err refusal) core location bytes code locations = core_outcome (Err refusal) code locations
commit_of (Ok (Some plan)) core location bytes code locations =
    core_outcome
    (Ok (core_after core location plan.size plan.after))
    (put core.code bytes code)
    (locations_after location core.locations core.code locations)

-- emission on the core
unfoldable pub emit_core : (core : Core) (location : Option Location) (opcode name : ℕ) (operand : Operand)
    (names code locations : List ℕ) → CoreOutcome
emit_core core location opcode name operand names code locations =
    commit_of
    (plan_of core location opcode name operand (length names) (length code) (length locations))
    core location (encode opcode operand names) code locations

-- the answer, and code and locations as the call leaves them
pub record Outcome : Type 0 where
  pub answer : Result Builder Refusal
  pub code : List ℕ
  pub locations : List ℕ

abbrev pub outcome : (answer : Result Builder Refusal) (code locations : List ℕ) → Outcome
outcome answer code locations = record { answer = answer; code = code; locations = locations }

abbrev pub outcome_by : Builder → CoreOutcome → Outcome
outcome_by builder left = outcome (answer_by builder left.answer) left.code left.locations

-- an instruction whose operand holds a name (R33, R35)
unfoldable pub emit_named : (builder : Builder) (opcode name : ℕ) (operand : Operand) (names code locations : List ℕ)
    → Outcome
emit_named builder opcode name operand names code locations =
    outcome_by builder (emit_core builder.core builder.location opcode name operand names code locations)

-- any other: 8 does not look at it (R34)
abbrev pub emit_of : (builder : Builder) (opcode : ℕ) (operand : Operand) (names code locations : List ℕ) → Outcome
emit_of builder opcode operand names code locations = emit_named builder opcode 0 operand names code locations

-- builder.rs, `emit_load_local`: "using specialized variants for common slots", 0 to 3; a byte; a word (R36)
abbrev pub load_op : ℕ → ℕ
load_op slot = cond (leb slot 3) (LoadLocal0 + slot) (cond (leb slot 255) LoadLocal LoadLocalW)

abbrev pub load_operand : ℕ → Operand
load_operand slot = cond (leb slot 3) O.None (cond (leb slot 255) (O.U8 slot) (O.U16 slot))

-- builder.rs, `emit_store_local`: "using wide variant for slots > 255" (R36)
abbrev pub store_op : ℕ → ℕ
store_op slot = cond (leb slot 255) StoreLocal StoreLocalW

abbrev pub store_operand : ℕ → Operand
store_operand slot = cond (leb slot 255) (O.U8 slot) (O.U16 slot)
