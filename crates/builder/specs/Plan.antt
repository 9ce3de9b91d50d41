-- What an emitting call decides: R28, "19, 1, 8, then dead code is accepted and nothing changes, then 3,
-- taken depth 4, 12 or 13, 11, 6, 7, 2, 4, 5, and last 18: code, locations, marks".
-- Assumes nothing.
use Rattle.builder.specs.declared.Location.{Location}
use Rattle.std.specs.Prelude.{Bool, true, false, cond, ◌&&◌, ℕ, leb, eqb, Ok, Err, Some, None, Result, Option}
use Rattle.op.specs.Opcodes.{known}
use Rattle.op.specs.Effects.{dead_maker}
use Rattle.op.specs.Depths.{after_of, taken_depth_of}
use Rattle.op.specs.Shapes.{operand_shape, size_of}
use Rattle.op.specs.declared.Operand.{Operand}
use Rattle.op.specs.declared.Refusal.{Refusal}
use Rattle.op.specs.declared.Refusal.TheVariants.{UnknownOpcode, WrongShape, JumpTooFar, TooManyKeywords, NameTooLarge}
use Rattle.op.specs.declared.Refusal.TheVariants.{DepthsDiffer, DeadTarget, NoSuchMark, Full, Unsound}
use Rattle.op.specs.declared.Table.TheVariants.{Code, Locations, Marks}
use Rattle.code.specs.Decode.{names_in}
use Rattle.builder.specs.declared.Core.{Core}
use Rattle.builder.specs.declared.plan.Plan.{Plan}
use Rattle.builder.specs.declared.JumpTarget.{JumpTarget}
use Rattle.builder.specs.declared.JumpTarget.TheVariants as T
use Rattle.builder.specs.declared.marks.Mark.{Mark}
use Rattle.code.specs.Locations.{locations_within}
use Rattle.code.specs.Tables.{code_room, code_within, mark_cells, room, within, word_max}
use Rattle.builder.specs.Locations.{row_fits}
use Rattle.builder.specs.Marks.{bits, mark_sound, near, of_target}

-- what a call asks for

-- where its instruction jumps to: nowhere; ahead, to a place that `patch_jump` will tell; or back, to a target and the
-- mark that it names
pub data Way : Type 0 where
  Onward : Way
  Ahead : Way
  Back : (target : JumpTarget) (mark : Mark) → Way

-- the state that matters and the instruction: `name` is the name in the operand, 0 without one, and `names` says how
-- many keyword names there are; then how many cells each lent table has
pub record Asked : Type 0 where
  pub core : Core
  pub location : Option Location
  pub opcode : ℕ
  pub name : ℕ
  pub operand : Operand
  pub names : ℕ
  pub way : Way
  pub code : ℕ
  pub locations : ℕ
  pub marks : ℕ

-- each test

-- 19, of the counts of code and locations
unfoldable pub sound_of : (core : Core) (code locations : ℕ) → Bool
sound_of core code locations =
    code_within core.code code && locations_within core.locations locations

-- 19, of the count of marks and of the mark that is named, where marks are lent
abbrev pub way_sound : (way : Way) (core : Core) (marks : ℕ) → Bool
way_sound Onward core marks = true
way_sound Ahead core marks = within mark_cells core.marks marks
way_sound (Back target mark) core marks = mark_sound core.code mark && within mark_cells core.marks marks

abbrev pub ask_sound : Asked → Bool
ask_sound asked =
    way_sound asked.way asked.core asked.marks && sound_of asked.core asked.code asked.locations

-- 3, taken-depth 4: the depth that a jump arrives with
abbrev pub taken_in : (way : Way) (here opcode : ℕ) → Result ℕ Refusal
taken_in Onward here opcode = Ok here
taken_in Ahead here opcode = taken_depth_of here opcode
taken_in (Back target mark) here opcode = taken_depth_of here opcode

-- what it is to do: write, nothing in dead code, or refuse
abbrev pub Decision : Type 0
Decision = Result (Option Plan) Refusal

abbrev pub planned : (after : Option ℕ) (word size : ℕ) → Plan
planned after word size = record { after = after; word = word; size = size }

-- 12 or 13
abbrev pub aimed : (way : Way) → Decision → Decision
aimed Onward plan = plan
aimed Ahead plan = plan
aimed (Back T.Dead mark) plan = Err DeadTarget
aimed (Back (T.Row row) mark) plan = of_target mark (λ (offset depth : ℕ). plan) (Err NoSuchMark)

-- 11, "a jump meets another depth"
abbrev pub meets_aim : (way : Way) (taken : ℕ) → Bool
meets_aim Onward taken = true
meets_aim Ahead taken = true
meets_aim (Back target mark) taken = of_target mark (λ (offset depth : ℕ). eqb taken depth) true

-- 6, "the displacement is outside its range"
abbrev pub near_aim : (way : Way) (at : ℕ) → Bool
near_aim Onward at = true
near_aim Ahead at = true
near_aim (Back target mark) at = of_target mark (λ (offset depth : ℕ). near at offset) true

-- how many bytes the instruction has
abbrev pub size_in : Asked → ℕ
size_in asked = size_of (operand_shape asked.operand) asked.names

-- 18 of the code, whose limit is 1,048,576 bytes (R20)
abbrev pub code_free : Asked → Bool
code_free asked = code_room asked.core.code asked.code (size_in asked)

-- 18 of the locations: "one location row if a location is set"
abbrev pub location_free : Asked → Bool
location_free asked = row_fits asked.location asked.core.locations asked.locations

-- 18 of the marks: "an open label's mark"
abbrev pub mark_free : (way : Way) (core : Core) (marks : ℕ) → Bool
mark_free Onward core marks = true
mark_free Ahead core marks = room mark_cells core.marks marks
mark_free (Back target mark) core marks = true

-- what a plan holds

-- "Six opcodes make the code behind them dead"
unfoldable pub behind : (opcode next : ℕ) → Option ℕ
behind opcode next = cond (dead_maker opcode) None (Some next)

-- the displacement to a mark's place
abbrev pub bits_to : (mark : Mark) (at : ℕ) → ℕ
bits_to mark at = of_target mark (λ (offset depth : ℕ). bits at offset) 0

-- the depth for a label's mark, or the displacement
abbrev pub word_by : (way : Way) (taken at : ℕ) → ℕ
word_by Onward taken at = 0
word_by Ahead taken at = taken
word_by (Back target mark) taken at = bits_to mark at

-- the order

-- go on where the test holds, else refuse
abbrev pub admit : Bool → Refusal → Result (Option ℕ) Refusal → Result (Option ℕ) Refusal
admit true refusal entered = entered
admit false refusal entered = Err refusal

abbrev pub guard : Bool → Refusal → Decision → Decision
guard true refusal plan = plan
guard false refusal plan = Err refusal

-- go on with the depth, where there is one
abbrev pub depth_here : Option ℕ → Result (Option ℕ) Refusal
depth_here depth = Ok depth

abbrev pub entered : Result (Option ℕ) Refusal → (ℕ → Decision) → Decision
entered (Ok None) plan = Ok None
entered (Err refusal) plan = Err refusal
entered (Ok (Some here)) plan = plan here

abbrev pub arrived : Result ℕ Refusal → (ℕ → Decision) → Decision
arrived (Err refusal) plan = Err refusal
arrived (Ok depth) plan = plan depth

-- how every emitting call begins (R28)
unfoldable pub enter_of : (sound : Bool) (opcode name : ℕ) (depth : Option ℕ) → Result (Option ℕ) Refusal
enter_of sound opcode name depth =
    admit sound Unsound  -- 19
    (admit (known opcode) UnknownOpcode  -- 1
    (admit (leb name word_max) NameTooLarge  -- 8
    (depth_here depth)))  -- dead code (accepted, nothing changes)

-- the whole line; an operand that counts other names than there are has another shape too (R28)
unfoldable pub emitting_of : Asked → Decision
emitting_of asked =
    entered (enter_of (ask_sound asked) asked.opcode asked.name asked.core.depth)  -- 19, 1, 8, dead code
    (λ (here : ℕ). arrived (taken_in asked.way here asked.opcode)  -- 3, taken-depth 4
    (λ (taken : ℕ). aimed asked.way  -- 12 or 13
    (guard (meets_aim asked.way taken) DepthsDiffer  -- 11
    (guard (near_aim asked.way asked.core.code) JumpTooFar  -- 6
    (guard (leb asked.names 255) TooManyKeywords  -- 7
    (guard (eqb (names_in asked.operand) asked.names) WrongShape  -- 2
    (arrived (after_of here asked.opcode asked.operand)  -- 2, 4, 5
    (λ (next : ℕ). guard (code_free asked) (Full Code)  -- 18
    (guard (location_free asked) (Full Locations)
    (guard (mark_free asked.way asked.core asked.marks) (Full Marks)
    (Ok (Some (planned (behind asked.opcode next) (word_by asked.way taken asked.core.code) (size_in asked))))))))))))))

-- an instruction that is no jump
abbrev pub plain_asked : (core : Core) (location : Option Location) (opcode name : ℕ) (operand : Operand)
    (names code locations : ℕ) → Asked
plain_asked core location opcode name operand names code locations = record {
  core = core;
  location = location;
  opcode = opcode;
  name = name;
  operand = operand;
  names = names;
  way = Onward;
  code = code;
  locations = locations;
  marks = 0;
}

unfoldable pub plan_of : (core : Core) (location : Option Location) (opcode name : ℕ) (operand : Operand)
    (names code locations : ℕ) → Decision
plan_of core location opcode name operand names code locations =
    emitting_of (plain_asked core location opcode name operand names code locations)
