-- The used code and the used starts stay within their lent tables, whatever is called.
-- Assumes nothing.
use Rattle.builder.specs.Patch.{PatchDecision}
use Rattle.builder.specs.Plan.{Decision}
use Rattle.builder.specs.declared.Core.{Core}
use Rattle.op.specs.declared.Refusal.{Refusal}
use Rattle.std.specs.Prelude.{Ok, Err, Some, None, Result, Option}
use mathlib.Core.Path.{◌≡◌, refl}
use mathlib.Core.Bool.{Bool, true, false}
use mathlib.Core.List.{List, [], ◌∷◌}
use Prim.Native.Nat.{ℕ, ◌+◌, ◌*◌, ◌/◌, ◌≤◌}
use native.Mathlib.Omega.{arith}
use lib.ListN.{length}
use borrow.Author.Tests.{ltb-true}
use Rattle.base.proofs.Bools.{either, clash}
use Rattle.op.specs.declared.Operand.{Operand}
use Rattle.op.specs.declared.Refusal.TheVariants.{Full}
use Rattle.op.specs.declared.Table.TheVariants.{Starts}
use Rattle.code.specs.Tables.{mark_cells, start_cells, within, room, put}
use Rattle.builder.specs.Emission.{CoreOutcome, emit_core, outcome_by, emit_named}
use Rattle.builder.specs.Marks.{TargetOutcome, target_at, target_of}
use Rattle.builder.specs.Forward.{jump_plan_of, commit_jump, emit_jump_of}
use Rattle.builder.specs.Back.{jump_to_core, emit_jump_to_of}
use Rattle.builder.specs.Patch.{patch_plan_of, commit_patch, patch_jump_of}
use Rattle.builder.specs.State.{Kept, kept, unless, counts_of}
use Rattle.builder.specs.Regions.{fresh_at, opened, new_of, region_at, region_of}
use Rattle.builder.specs.Constants.{AddedKept}
use Rattle.builder.specs.declared.Builder.{Builder}
use Rattle.builder.specs.declared.JumpLabel.{JumpLabel}
use Rattle.builder.specs.declared.JumpTarget.{JumpTarget}
use Rattle.code.proofs.Putting.{length_put}
use Rattle.demand.specs.World.{after, after_jump, after_target, after_const}
use Rattle.demand.proofs.Keeping.{SameCore}
use Rattle.demand.proofs.Views.{made}

-- emission keeps the count of starts

module _ (b : Builder) where
  answered_starts : (x : CoreOutcome) (a : Result Core Refusal) → x.answer ≡ a
      → (after (outcome_by b x).answer b).starts ≡ b.starts
  answered_starts x (Ok c) e = rw e refl
  answered_starts x (Err r) e = rw e refl

  pub emit_starts : (k name : ℕ) (o : Operand) (ns code locs : List ℕ)
      → (after (emit_named b k name o ns code locs).answer b).starts ≡ b.starts
  unfolding emit_named
  emit_starts k name o ns code locs = answered_starts (emit_core b.core b.location k name o ns code locs) _ refl

  pub to_starts : (k : ℕ) (t : JumpTarget) (code locs marks : List ℕ)
      → (after (emit_jump_to_of b k t code locs marks).answer b).starts ≡ b.starts
  unfolding emit_jump_to_of
  to_starts k t code locs marks = answered_starts (jump_to_core b.core b.location k t code locs marks) _ refl

  pub jump_starts : (k : ℕ) (code locs marks : List ℕ)
      → (after_jump (emit_jump_of b k code locs marks).answer b).starts ≡ b.starts
  unfolding emit_jump_of
  jump_starts k code locs marks = go (jump_plan_of b.core b.location k (length code) (length locs) (length marks))
    where
      go : (p : Decision) → (after_jump (commit_jump p b k code locs marks).answer b).starts ≡ b.starts
      go (Ok None) = refl
      go (Err r) = refl
      go (Ok (Some plan)) = refl

  pub patch_starts : (l : JumpLabel) (code marks : List ℕ)
      → (after (patch_jump_of b l code marks).answer b).starts ≡ b.starts
  unfolding patch_jump_of
  patch_starts l code marks = go (patch_plan_of b.core l (length code) marks)
    where
      go : (p : PatchDecision) → (after (commit_patch p b l code marks).answer b).starts ≡ b.starts
      go (Ok None) = refl
      go (Err r) = refl
      go (Ok (Some plan)) = refl

  -- a target keeps both counts
  abbrev TargetKeeps : TargetOutcome → Type 0
  TargetKeeps x = ((after_target x.answer b).core.code ≡ b.core.code)
      × ((after_target x.answer b).starts ≡ b.starts)

  target_at_lem : (marks : List ℕ) (d : Option ℕ) → TargetKeeps (target_at d b marks)
  target_at_lem marks None = (refl, refl)
  target_at_lem marks (Some d) =
      either TargetKeeps (room mark_cells b.core.marks (length marks)) _ _ (refl, refl) (refl, refl)

  pub target_keeps : (marks : List ℕ) → TargetKeeps (target_of b marks)
  unfolding target_of
  target_keeps marks = either TargetKeeps (counts_of b (within mark_cells b.core.marks (length marks)))
      _ _ (target_at_lem marks b.core.depth) (refl, refl)

  -- a region adds a start where there is room for it
  module _ (d : ℕ) (starts : List ℕ) (inside : b.starts * start_cells ≤ length starts) where
    abbrev RegionKeeps : Kept → Type 0
    RegionKeeps x = ((after x.answer b).core.code ≡ b.core.code)
        × ((after x.answer b).starts * start_cells ≤ length x.cells)

    opened_keeps : (t : Bool) → room start_cells b.starts (length starts) ≡ t
        → RegionKeeps (unless t (Full Starts) starts (kept (Ok (opened b d (b.starts + 1))) (put (b.starts * start_cells) (b.core.code ∷ d ∷ []) starts)))
    opened_keeps true e =
        let l = ltb-true b.starts (length starts / start_cells) e in
        (refl, omega (arith, length_put (b.starts * start_cells) (b.core.code ∷ d ∷ []) starts (omega arith)))
    opened_keeps false e = (refl, inside)

    region_at_lem : (x : Option ℕ) → RegionKeeps (region_at x b d starts)
    region_at_lem (Some e) = (refl, inside)
    region_at_lem None = opened_keeps (room start_cells b.starts (length starts)) refl

    pub region_keeps : RegionKeeps (region_of b d starts)
    unfolding region_of
    region_keeps = either RegionKeeps (counts_of b (within start_cells b.starts (length starts)))
        _ _ (region_at_lem b.core.depth) (refl, inside)

  -- the other calls keep the core and the starts

  pub same_after : (x : Kept) → SameCore b x → ((after x.answer b).core ≡ b.core)
      × ((after x.answer b).starts ≡ b.starts)
  unfolding SameCore
  same_after x h = go x.answer refl
    where
      go : (a : Result Builder Refusal) → x.answer ≡ a → ((after a b).core ≡ b.core) × ((after a b).starts ≡ b.starts)
      go (Ok n) e = h n e
      go (Err r) e = (refl, refl)

  pub const_after : (x : AddedKept) →
      ((n : Builder) (i : ℕ) → x.answer ≡ Ok (n, i) → (n.core ≡ b.core) × (n.starts ≡ b.starts))
      → ((after_const x.answer b).core ≡ b.core) × ((after_const x.answer b).starts ≡ b.starts)
  const_after x h = go x.answer refl
    where
      go : (a : Result (Builder × ℕ) Refusal) → x.answer ≡ a → ((after_const a b).core ≡ b.core) × ((after_const a b).starts ≡ b.starts)
      go (Ok (n, i)) e = h n i e
      go (Err r) e = (refl, refl)

-- a new builder

pub new_within : (told : Option ℕ) (starts : List ℕ) (b : Builder) → (new_of told starts).answer ≡ Ok b
    → (b.core.code ≡ 0) × (b.starts * start_cells ≤ length (new_of told starts).cells)
unfolding new_of
new_within None starts b e = rw (← made (fresh_at None 0) b e) (refl, omega arith)
new_within (Some d) starts b e = go (room start_cells 0 (length starts)) refl e
  where
    go : (t : Bool) → room start_cells 0 (length starts) ≡ t → (unless t (Full Starts) starts (kept (Ok (fresh_at (Some d) 1)) (put 0 (0 ∷ d ∷ []) starts))).answer ≡ Ok b
        → (b.core.code ≡ 0) × (b.starts * start_cells ≤ length (unless t (Full Starts) starts (kept (Ok (fresh_at (Some d) 1)) (put 0 (0 ∷ d ∷ []) starts))).cells)
    go true q e =
        let l = ltb-true 0 (length starts / start_cells) q in
        rw (← made (fresh_at (Some d) 1) b e) (refl, omega (arith, length_put 0 (0 ∷ d ∷ []) starts (omega arith)))
    go false q e = clash cc
