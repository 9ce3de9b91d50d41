-- The model of `patch_jump`: R29, R38.
-- Assumes nothing.
use Rattle.std.specs.Prelude.{Bool, true, false, List, ℕ, ◌+◌, ◌*◌, length, set, Ok, Err, Some, None, Result, Option}
use Rattle.op.specs.declared.Refusal.{Refusal}
use Rattle.op.specs.declared.Refusal.TheVariants.{JumpTooFar, DepthsDiffer, NoSuchMark, AlreadyPatched, Unsound}
use Rattle.code.specs.Bytes.{word_bytes}
use Rattle.builder.specs.declared.Builder.{Builder}
use Rattle.builder.specs.declared.Core.{Core}
use Rattle.builder.specs.declared.JumpLabel.{JumpLabel}
use Rattle.builder.specs.declared.JumpLabel.TheVariants as L
use Rattle.builder.specs.declared.marks.Mark.{Mark}
use Rattle.builder.specs.declared.marks.Mark.TheVariants.{Absent, Open, Patched, Target}
use Rattle.builder.specs.declared.patch.PatchPlan.{PatchPlan}
use Rattle.code.specs.Tables.{mark_cells, put}
use Rattle.builder.specs.State.{with_core, with_depth}
use Rattle.builder.specs.Marks.{bits, mark_in, mark_sound, markable, meets, near, patched_kind, revived}

-- what a patch is to do: write, nothing of a label that was made in dead code, or refuse
abbrev pub PatchDecision : Type 0
PatchDecision = Result (Option PatchPlan) Refusal

abbrev pub patching : (after : Option ℕ) (word offset : ℕ) → PatchPlan
patching after word offset = record { after = after; word = word; offset = offset }

-- go on where the test holds, else refuse
abbrev pub patch_guard : Bool → Refusal → PatchDecision → PatchDecision
patch_guard true refusal plan = plan
patch_guard false refusal plan = Err refusal

-- 13, 14, 11, 6 (R29)
abbrev pub open_plan : (mark : Mark) (core : Core) → PatchDecision
open_plan Absent core = Err NoSuchMark
open_plan (Target offset depth) core = Err NoSuchMark
open_plan (Patched offset depth) core = Err AlreadyPatched
open_plan (Open offset depth) core =
    patch_guard (meets core.depth depth) DepthsDiffer
    (patch_guard (near offset core.code) JumpTooFar
    (Ok (Some (patching (revived core.depth depth) (bits offset core.code) offset))))

-- 19 of the mark
unfoldable pub mark_plan_of : (mark : Mark) (core : Core) → PatchDecision
mark_plan_of mark core = patch_guard (mark_sound core.code mark) Unsound (open_plan mark core)

-- Dead (accepted, no change)
abbrev pub label_plan : (label : JumpLabel) (core : Core) (marks : List ℕ) → PatchDecision
label_plan L.Dead core marks = Ok None
label_plan (L.Row row) core marks = mark_plan_of (mark_in core.marks marks row) core

-- 19 of the counts (R29)
unfoldable pub patch_plan_of : (core : Core) (label : JumpLabel) (code : ℕ) (marks : List ℕ) → PatchDecision
patch_plan_of core label code marks =
    patch_guard (markable core code (length marks)) Unsound (label_plan label core marks)

-- a label's row
abbrev pub label_row : JumpLabel → ℕ
label_row L.Dead = 0
label_row (L.Row row) = row

-- the answer, and code and marks as the call leaves them
pub record PatchOutcome : Type 0 where
  pub answer : Result Builder Refusal
  pub code : List ℕ
  pub marks : List ℕ

abbrev pub patch_outcome : (answer : Result Builder Refusal) (code marks : List ℕ) → PatchOutcome
patch_outcome answer code marks = record { answer = answer; code = code; marks = marks }

-- "written at the opcode's offset and 1 and 2 and nowhere else, the mark becomes patched" (R38)
abbrev pub commit_patch : PatchDecision → (builder : Builder) (label : JumpLabel) (code marks : List ℕ) → PatchOutcome
commit_patch (Ok None) builder label code marks = patch_outcome (Ok builder) code marks
commit_patch (Err refusal) builder label code marks = patch_outcome (Err refusal) code marks
commit_patch (Ok (Some plan)) builder label code marks =
    patch_outcome (Ok (with_core builder (with_depth builder.core plan.after)))
    (put (plan.offset + 1) (word_bytes plan.word) code)
    (set marks (label_row label * mark_cells) patched_kind)

-- R38
unfoldable pub patch_jump_of : (builder : Builder) (label : JumpLabel) (code marks : List ℕ) → PatchOutcome
patch_jump_of builder label code marks =
    commit_patch (patch_plan_of builder.core label (length code) marks) builder label code marks
