-- The model of `emit_jump`. It has no target yet, so 12, 13, 11 and 6 are left to `patch_jump`.
-- Assumes nothing.
use Rattle.builder.specs.Plan.{Decision}
use Rattle.builder.specs.declared.JumpLabel.{JumpLabel}
use Rattle.builder.specs.declared.Location.{Location}
use Rattle.op.specs.declared.Refusal.{Refusal}
use Rattle.std.specs.Prelude.{List, [], ℕ, ◌+◌, length, pos, Ok, Err, Some, None, Result, Option}
use Rattle.op.specs.declared.Operand.{Operand}
use Rattle.op.specs.declared.Operand.TheVariants.{Offset}
use Rattle.code.specs.Encode.{encode}
use Rattle.builder.specs.declared.Builder.{Builder}
use Rattle.builder.specs.declared.Core.{Core}
use Rattle.builder.specs.declared.JumpLabel.TheVariants as L
use Rattle.code.specs.Tables.{mark_cells, push, put}
use Rattle.builder.specs.State.{with_core, with_marks}
use Rattle.builder.specs.Locations.{locations_after}
use Rattle.builder.specs.Marks.{mark_row, open_kind}
use Rattle.builder.specs.Plan.{Ahead, Asked, emitting_of}
use Rattle.builder.specs.Emission.{core_after}

-- the operand of a jump that is not patched yet: the Rust writes 0
abbrev pub unpatched : Operand
unpatched = Offset (pos 0)

-- what `emit_jump` asks for
abbrev pub jump_asked : (core : Core) (location : Option Location) (opcode code locations marks : ℕ) → Asked
jump_asked core location opcode code locations marks = record {
  core = core;
  location = location;
  opcode = opcode;
  name = 0;
  operand = unpatched;
  names = 0;
  way = Ahead;
  code = code;
  locations = locations;
  marks = marks;
}

unfoldable pub jump_plan_of : (core : Core) (location : Option Location) (opcode code locations marks : ℕ) → Decision
jump_plan_of core location opcode code locations marks = emitting_of (jump_asked core location opcode code locations marks)

-- the answer, and the three tables as the call leaves them
pub record JumpOutcome : Type 0 where
  pub answer : Result (Builder × JumpLabel) Refusal
  pub code : List ℕ
  pub locations : List ℕ
  pub marks : List ℕ

abbrev pub jump_outcome : (answer : Result (Builder × JumpLabel) Refusal) (code locations marks : List ℕ) → JumpOutcome
jump_outcome answer code locations marks = record {
  answer = answer;
  code = code;
  locations = locations;
  marks = marks;
}

-- an open label's mark at the used end, with the jump's offset and the depth that it arrives with
abbrev pub commit_jump : Decision → (builder : Builder) (opcode : ℕ) (code locations marks : List ℕ) → JumpOutcome
commit_jump (Ok None) builder opcode code locations marks = jump_outcome (Ok (builder, L.Dead)) code locations marks
commit_jump (Err refusal) builder opcode code locations marks = jump_outcome (Err refusal) code locations marks
commit_jump (Ok (Some plan)) builder opcode code locations marks =
    let core = builder.core in
    let next = with_marks (core_after core builder.location plan.size plan.after) (core.marks + 1) in
    jump_outcome
    (Ok ((with_core builder next), (L.Row core.marks)))
    (put core.code (encode opcode unpatched []) code)
    (locations_after builder.location core.locations core.code locations)
    (push mark_cells core.marks (mark_row open_kind core.code plan.word) marks)

-- R37
unfoldable pub emit_jump_of : (builder : Builder) (opcode : ℕ) (code locations marks : List ℕ) → JumpOutcome
emit_jump_of builder opcode code locations marks =
    commit_jump
    (jump_plan_of builder.core builder.location opcode (length code) (length locations) (length marks))
    builder opcode code locations marks
