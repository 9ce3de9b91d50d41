-- Nothing is done in dead code alone: a plan that does nothing says that the code is dead, or the label is.
-- Assumes nothing.
use Rattle.builder.specs.Patch.{patching}
use Rattle.builder.specs.Patch.{PatchDecision}
use Rattle.builder.specs.declared.Location.{Location}
use Rattle.std.specs.Prelude.{Ok, Err, Some, None, Option}
use mathlib.Core.Path.{◌≡◌}
use mathlib.Core.Bool.{Bool, true, false}
use mathlib.Core.List.{List}
use Prim.Native.Nat.{ℕ}
use lib.ListN.{length}
use Rattle.base.proofs.Bools.{clash}
use Rattle.op.specs.declared.Operand.{Operand}
use Rattle.op.specs.declared.Refusal.{Refusal}
use Rattle.op.specs.declared.Refusal.TheVariants.{JumpTooFar, DepthsDiffer, Unsound}
use Rattle.builder.specs.declared.Core.{Core}
use Rattle.builder.specs.declared.JumpTarget.{JumpTarget}
use Rattle.builder.specs.declared.marks.Mark.{Mark}
use Rattle.builder.specs.declared.marks.Mark.TheVariants.{Absent, Open, Patched, Target}
use Rattle.builder.specs.Marks.{bits, mark_sound, meets, near, revived, target_mark}
use Rattle.builder.specs.Plan.{plain_asked, plan_of}
use Rattle.builder.specs.Forward.{jump_asked, jump_plan_of}
use Rattle.builder.specs.Back.{to_asked, to_plan_of}
use Rattle.builder.specs.Patch.{mark_plan_of, open_plan, patch_guard}
use Rattle.builder.proofs.Plans.{line_idle}

pub plan_idle : (c : Core) (l : Option Location) (k name : ℕ) (o : Operand) (n cl ll : ℕ)
    → plan_of c l k name o n cl ll ≡ Ok None → c.depth ≡ None
unfolding plan_of
plan_idle c l k name o n cl ll e = line_idle (plain_asked c l k name o n cl ll) e

pub jump_idle : (c : Core) (l : Option Location) (k cl ll ml : ℕ) → jump_plan_of c l k cl ll ml ≡ Ok None → c.depth ≡ None
unfolding jump_plan_of
jump_idle c l k cl ll ml e = line_idle (jump_asked c l k cl ll ml) e

pub to_idle : (c : Core) (l : Option Location) (k : ℕ) (t : JumpTarget) (cl ll : ℕ) (marks : List ℕ)
    → to_plan_of c l k t cl ll marks ≡ Ok None → c.depth ≡ None
unfolding to_plan_of
to_idle c l k t cl ll marks e = line_idle (to_asked c l k t (target_mark t c.marks marks) cl ll (length marks)) e

-- a label that is Dead has nothing to patch, and a mark is never idle
pub guard_never : (t : Bool) (r : Refusal) (o w : ℕ) (a : Option ℕ)
    → patch_guard t r (Ok None) ≡ Ok (Some (patching a w o)) → ⊥
guard_never true r o w a e = clash cc
guard_never false r o w a e = clash cc

patch_never : {B : Type 0} {r : Refusal} → ◌≡◌ {A = PatchDecision} (Err r) (Ok None) → B
patch_never e = clash cc

patch_busy : (o w : ℕ) (a : Option ℕ)
    → ◌≡◌ {A = PatchDecision} (Ok (Some (patching a w o))) (Ok None) → ⊥
patch_busy o w a e = clash cc

patch_guard_idle : (t : Bool) (r : Refusal) (p : PatchDecision) → patch_guard t r p ≡ Ok None → p ≡ Ok None
patch_guard_idle true r p e = e
patch_guard_idle false r p e = patch_never e

pub mark_busy : (m : Mark) (c : Core) → mark_plan_of m c ≡ Ok None → ⊥
unfolding mark_plan_of
mark_busy m c e = go m (patch_guard_idle (mark_sound c.code m) Unsound (open_plan m c) e)
  where
    go : (m : Mark) → open_plan m c ≡ Ok None → ⊥
    go Absent e = patch_never e
    go (Target o d) e = patch_never e
    go (Patched o d) e = patch_never e
    go (Open o d) e =
        let p : PatchDecision = Ok (Some (patching (revived c.depth d) (bits o c.code) o)) in
        patch_busy o (bits o c.code) (revived c.depth d)
        (patch_guard_idle (near o c.code) JumpTooFar p
        (patch_guard_idle (meets c.depth d) DepthsDiffer (patch_guard (near o c.code) JumpTooFar p) e))
