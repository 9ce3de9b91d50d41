-- The model of `emit_jump_to`.
-- Assumes nothing.
use Rattle.builder.specs.Plan.{Decision}
use Rattle.builder.specs.declared.Location.{Location}
use Rattle.std.specs.Prelude.{List, [], ℕ, length, Ok, Err, Some, None, Option}
use Rattle.op.specs.declared.Operand.{Operand}
use Rattle.op.specs.declared.Operand.TheVariants.{Offset}
use Rattle.code.specs.Encode.{encode}
use Rattle.code.specs.Bytes.{signed}
use Rattle.builder.specs.declared.Builder.{Builder}
use Rattle.builder.specs.declared.Core.{Core}
use Rattle.builder.specs.declared.JumpTarget.{JumpTarget}
use Rattle.builder.specs.declared.marks.Mark.{Mark}
use Rattle.builder.specs.Marks.{target_mark}
use Rattle.builder.specs.Plan.{Asked, Back, bits_to, emitting_of}
use Rattle.builder.specs.Emission.{CoreOutcome, Outcome, commit_of, outcome_by}

-- the operand of a jump with these 16 bits of displacement
abbrev pub jump_by : ℕ → Operand
jump_by w = Offset (signed 65536 w)

-- what `emit_jump_to` asks for, with the mark that its target names
abbrev pub to_asked : (core : Core) (location : Option Location) (opcode : ℕ) (target : JumpTarget) (mark : Mark)
    (code locations marks : ℕ) → Asked
to_asked core location opcode target mark code locations marks = record {
  core = core;
  location = location;
  opcode = opcode;
  name = 0;
  operand = jump_by (bits_to mark core.code);
  names = 0;
  way = Back target mark;
  code = code;
  locations = locations;
  marks = marks;
}

unfoldable pub to_plan_of : (core : Core) (location : Option Location) (opcode : ℕ) (target : JumpTarget)
    (code locations : ℕ) (marks : List ℕ) → Decision
to_plan_of core location opcode target code locations marks =
    emitting_of
    (to_asked core location opcode target (target_mark target core.marks marks) code locations (length marks))

-- the displacement that a plan found
abbrev pub word_in : Decision → ℕ
word_in (Ok None) = 0
word_in (Err refusal) = 0
word_in (Ok (Some plan)) = plan.word

-- what such a plan comes to
abbrev pub commit_to : (plan : Decision) (core : Core) (location : Option Location) (opcode : ℕ) (code locations : List ℕ)
    → CoreOutcome
commit_to plan core location opcode code locations =
    commit_of plan core location (encode opcode (jump_by (word_in plan)) []) code locations

unfoldable pub jump_to_core : (core : Core) (location : Option Location) (opcode : ℕ) (target : JumpTarget)
    (code locations marks : List ℕ) → CoreOutcome
jump_to_core core location opcode target code locations marks =
    commit_to
    (to_plan_of core location opcode target (length code) (length locations) marks)
    core location opcode code locations

-- R39
unfoldable pub emit_jump_to_of : (builder : Builder) (opcode : ℕ) (target : JumpTarget) (code locations marks : List ℕ)
    → Outcome
emit_jump_to_of builder opcode target code locations marks =
    outcome_by builder (jump_to_core builder.core builder.location opcode target code locations marks)
