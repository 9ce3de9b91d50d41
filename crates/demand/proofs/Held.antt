-- The used code stays within the lent code, which the moves of `current_jump_target` and `new_code_region` ask for.
-- Assumes nothing.
use Rattle.builder.specs.Patch.{patching}
use Rattle.builder.specs.Patch.{PatchDecision}
use Rattle.builder.specs.Plan.{Decision}
use Rattle.std.specs.Prelude.{Ok, Err, Some, None, Option}
use mathlib.Core.Path.{◌≡◌, refl}
use mathlib.Core.List.{List, []}
use Prim.Native.Nat.{ℕ, ◌+◌, ◌≤◌}
use native.Mathlib.Omega.{arith}
use lib.ListN.{length}
use Rattle.op.specs.declared.Operand.{Operand}
use Rattle.op.specs.declared.Refusal.TheVariants.{Unsound}
use Rattle.code.specs.Bytes.{word_bytes}
use Rattle.code.specs.Encode.{encode}
use Rattle.code.proofs.Inverse.{length_encode}
use Rattle.builder.specs.declared.Builder.{Builder}
use Rattle.builder.specs.declared.JumpLabel.{JumpLabel}
use Rattle.builder.specs.declared.JumpLabel.TheVariants as L
use Rattle.builder.specs.declared.JumpTarget.{JumpTarget}
use Rattle.code.specs.Tables.{put}
use Rattle.builder.specs.Plan.{plan_of}
use Rattle.builder.specs.Emission.{commit_of, emit_core, outcome_by, emit_named}
use Rattle.builder.specs.Marks.{mark_in, markable}
use Rattle.builder.specs.Forward.{unpatched, jump_plan_of, commit_jump, emit_jump_of}
use Rattle.builder.specs.Back.{jump_by}
use Rattle.builder.specs.Back.{to_plan_of, commit_to, jump_to_core, emit_jump_to_of}
use Rattle.builder.specs.Patch.{mark_plan_of, patch_plan_of, commit_patch, patch_jump_of}
use Rattle.demand.specs.World.{after, after_jump}
use Rattle.code.proofs.Putting.{length_put}
use Rattle.builder.proofs.Plans.{LiveGoes, plan_goes}
use Rattle.builder.proofs.JumpPlans.{forward_goes, to_goes}
use Rattle.builder.proofs.PatchPlans.{patch_guard_go, patch_goes}
use Rattle.demand.proofs.Idle.{guard_never}

module _ (b : Builder) (k : ℕ) (code locs : List ℕ) (within : b.core.code ≤ length code) where
  put_held : (d : ℕ) (o : Operand) (ns : List ℕ) (word s w : ℕ) (a : Option ℕ)
      → LiveGoes b.core b.location d k o (length ns) word (length code) (length locs) s a w
      → b.core.code + s ≤ length (put b.core.code (encode k o ns) code)
  put_held d o ns word s w a g =
      let z = length_encode k o ns g.count in
      omega (arith, length_put b.core.code (encode k o ns) code (omega (arith, z, g.size, g.code)), g.code)

  module _ (name : ℕ) (o : Operand) (ns : List ℕ) where
    emit_held_by : (p : Decision) → plan_of b.core b.location k name o (length ns) (length code) (length locs) ≡ p
        → (after (outcome_by b (commit_of p b.core b.location (encode k o ns) code locs)).answer b).core.code
        ≤ length (commit_of p b.core b.location (encode k o ns) code locs).code
    emit_held_by (Ok None) e = within
    emit_held_by (Err r) e = within
    emit_held_by (Ok (Some plan)) e =
        let g = plan_goes b.core b.location k name o (length ns) (length code) (length locs)
        plan.size plan.word plan.after e in
        put_held g.here o ns 0 plan.size plan.word plan.after g.goes

    pub emit_held : (after (emit_named b k name o ns code locs).answer b).core.code
        ≤ length (emit_named b k name o ns code locs).code
    unfolding emit_named emit_core
    emit_held = emit_held_by (plan_of b.core b.location k name o (length ns) (length code) (length locs)) refl

  module _ (marks : List ℕ) where
    jump_held_by : (p : Decision) → jump_plan_of b.core b.location k (length code) (length locs) (length marks) ≡ p
        → (after_jump (commit_jump p b k code locs marks).answer b).core.code
        ≤ length (commit_jump p b k code locs marks).code
    jump_held_by (Ok None) e = within
    jump_held_by (Err r) e = within
    jump_held_by (Ok (Some plan)) e =
        let g = forward_goes b.core b.location k (length code) (length locs) (length marks)
        plan.size plan.word plan.after e in
        put_held g.here unpatched [] plan.word plan.size plan.word plan.after g.goes

    pub jump_held : (after_jump (emit_jump_of b k code locs marks).answer b).core.code
        ≤ length (emit_jump_of b k code locs marks).code
    unfolding emit_jump_of
    jump_held = jump_held_by (jump_plan_of b.core b.location k (length code) (length locs) (length marks)) refl

    module _ (t : JumpTarget) where
      to_held_by : (p : Decision) → to_plan_of b.core b.location k t (length code) (length locs) marks ≡ p
          → (after (outcome_by b (commit_to p b.core b.location k code locs)).answer b).core.code
          ≤ length (commit_to p b.core b.location k code locs).code
      to_held_by (Ok None) e = within
      to_held_by (Err r) e = within
      to_held_by (Ok (Some plan)) e =
          let g = to_goes b.core b.location k t (length code) (length locs) marks
          plan.size plan.word plan.after e in
          put_held g.here (jump_by plan.word) [] plan.word plan.size plan.word plan.after g.goes

      pub to_held : (after (emit_jump_to_of b k t code locs marks).answer b).core.code
          ≤ length (emit_jump_to_of b k t code locs marks).code
      unfolding emit_jump_to_of jump_to_core
      to_held = to_held_by (to_plan_of b.core b.location k t (length code) (length locs) marks) refl

module _ (b : Builder) (code marks : List ℕ) (within : b.core.code ≤ length code) where
  patch_place : (x : JumpLabel) (o w : ℕ) (a : Option ℕ)
      → patch_plan_of b.core x (length code) marks ≡ Ok (Some (patching a w o)) → o + 3 ≤ b.core.code
  unfolding patch_plan_of
  patch_place L.Dead o w a e = absurd (guard_never (markable b.core (length code) (length marks)) Unsound o w a e)
  patch_place (L.Row i) o w a e =
      let m = mark_in b.core.marks marks i in
      (patch_goes b.core o w a m (patch_guard_go (markable b.core (length code) (length marks)) Unsound (mark_plan_of m b.core) e).1).place

  patch_held_by : (x : JumpLabel) (p : PatchDecision) → patch_plan_of b.core x (length code) marks ≡ p
      → (after (commit_patch p b x code marks).answer b).core.code ≤ length (commit_patch p b x code marks).code
  patch_held_by x (Ok None) e = within
  patch_held_by x (Err r) e = within
  patch_held_by x (Ok (Some plan)) e =
      let place = patch_place x plan.offset plan.word plan.after e in
      omega (arith, length_put (plan.offset + 1) (word_bytes plan.word) code (omega (arith, place)))

  pub patch_held : (x : JumpLabel) → (after (patch_jump_of b x code marks).answer b).core.code
      ≤ length (patch_jump_of b x code marks).code
  unfolding patch_jump_of
  patch_held x = patch_held_by x (patch_plan_of b.core x (length code) marks) refl
