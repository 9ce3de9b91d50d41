-- What follows where the plan of a patch goes ahead, and what such a plan comes to.
-- Assumes nothing.
use Rattle.builder.specs.Patch.{patching}
use Rattle.builder.specs.declared.patch.PatchPlan.{PatchPlan}
use Rattle.builder.specs.Patch.{PatchDecision}
use Rattle.std.specs.Prelude.{Ok, Some, Option}
use mathlib.Core.Path.{◌≡◌, refl, sym, ap, ◌∙◌}
use mathlib.Core.Bool.{Bool, true, false, ◌&&◌}
use mathlib.Core.List.{List}
use Prim.Native.Nat.{ℕ, ◌+◌, ◌/◌, ◌≤◌, ◌<◌}
use native.Mathlib.Omega.{arith}
use lib.Dec.{leb}
use lib.ListN.{length}
use borrow.Author.Tests.{leb-true}
use Rattle.base.proofs.Bools.{and_true, clash}
use Rattle.op.specs.declared.Refusal.{Refusal}
use Rattle.op.specs.declared.Refusal.TheVariants.{JumpTooFar, DepthsDiffer, Unsound}
use Rattle.builder.specs.declared.Builder.{Builder}
use Rattle.builder.specs.declared.Core.{Core}
use Rattle.builder.specs.declared.JumpLabel.{JumpLabel}
use Rattle.builder.specs.declared.JumpLabel.TheVariants as L
use Rattle.builder.specs.declared.marks.Mark.{Mark}
use Rattle.builder.specs.declared.marks.Mark.TheVariants.{Absent, Open, Patched, Target}
use Rattle.code.specs.Tables.{code_limit, mark_cells, word_max}
use Rattle.builder.specs.Marks.{bits, fits, mark_in, mark_sound, markable, meets, near, revived}
use Rattle.builder.specs.Patch.{commit_patch, mark_plan_of, open_plan, patch_guard, patch_jump_of, patch_plan_of}
use Rattle.builder.specs.Inner.{Markable}
use Rattle.builder.proofs.JumpPlans.{mark_used}

-- what a plan comes to
pub patched_row : (b : Builder) (label : JumpLabel) (i : ℕ) (code marks : List ℕ) (p : PatchDecision) → label ≡ L.Row i
    → markable b.core (length code) (length marks) ≡ true
    → mark_plan_of (mark_in b.core.marks marks i) b.core ≡ p
    → commit_patch p b (L.Row i) code marks ≡ patch_jump_of b label code marks
unfolding patch_jump_of patch_plan_of
patched_row b label i code marks p el em ep = rw (el, em, ep) refl

-- tests
pub patch_guard_go : {o w : ℕ} {a : Option ℕ} (t : Bool) (r : Refusal) (p : PatchDecision) → patch_guard t r p ≡ Ok (Some (patching a w o))
    → (t ≡ true) × (p ≡ Ok (Some (patching a w o)))
patch_guard_go true r p e = (refl, e)
patch_guard_go false r p e = (cc, cc)

pub markable_true : (c : Core) (cl ml : ℕ) → markable c cl ml ≡ true → Markable c cl ml
unfolding markable
markable_true c cl ml e =
    let p = and_true (leb c.code cl && leb c.code code_limit) (leb c.marks (ml / mark_cells)) e in
    let q = and_true (leb c.code cl) (leb c.code code_limit) p.0 in
    record { code = leb-true _ _ q.0; limit = leb-true _ _ q.1; rows = leb-true _ _ p.1 }

pub fits_true : (depth place code : ℕ) → fits depth place code ≡ true → (depth ≤ word_max) × (place ≤ code)
unfolding fits
fits_true depth place code e = let p = and_true (leb depth word_max) (leb place code) e in
    (leb-true _ _ p.0, leb-true _ _ p.1)

pub record PatchGoes (c : Core) (m : Mark) (o : ℕ) (a : Option ℕ) (w : ℕ) : Type 0 where
  pub depth : ℕ
  pub mark : m ≡ Open o depth
  pub small : depth ≤ word_max
  pub place : o + 3 ≤ c.code
  pub meet : meets c.depth depth ≡ true
  pub close : near o c.code ≡ true
  pub after : a ≡ revived c.depth depth
  pub word : w ≡ bits o c.code

module _ (c : Core) (o w : ℕ) (a : Option ℕ) where
  by_mark : (m x : Mark) → m ≡ x → mark_sound c.code x ≡ true → open_plan x c ≡ Ok (Some (patching a w o)) → PatchGoes c m o a w
  by_mark m Absent em es e = clash cc
  by_mark m (Target p d) em es e = clash cc
  by_mark m (Patched p d) em es e = clash cc
  by_mark m (Open p d) em es e =
      let p2 : PatchDecision = Ok (Some (patching (revived c.depth d) (bits p c.code) p)) in
      let e1 = patch_guard_go (meets c.depth d) DepthsDiffer (patch_guard (near p c.code) JumpTooFar p2) e in
      let e2 = patch_guard_go (near p c.code) JumpTooFar p2 e1.1 in
      let q : Ok (Some (patching (revived c.depth d) (bits p c.code) p)) ≡ Ok (Some (patching a w o)) = e2.1 in
      let same : patching (revived c.depth d) (bits p c.code) p ≡ patching a w o = cc in
      let qo : p ≡ o = ap (λ (x : PatchPlan). x.offset) same in
      let f = fits_true d (p + 3) c.code es in
      record {
        depth = d;
        mark = em ∙ ap (λ (y : ℕ). Open y d) qo;
        small = f.0;
        place = omega (arith, f.1, qo);
        meet = e1.0;
        close = rw qo at e2.0;
        after = sym (ap (λ (x : PatchPlan). x.after) same);
        word = rw (← qo) (sym (ap (λ (x : PatchPlan). x.word) same));
      }

  pub patch_goes : (m : Mark) → mark_plan_of m c ≡ Ok (Some (patching a w o)) → PatchGoes c m o a w
  unfolding mark_plan_of
  patch_goes m e =
      let g = patch_guard_go (mark_sound c.code m) Unsound (open_plan m c) e in
      by_mark m m refl g.0 g.1

  -- what the patch's writing asks for
  pub patch_writes : (cl i : ℕ) (marks : List ℕ) → Markable c cl (length marks)
      → mark_plan_of (mark_in c.marks marks i) c ≡ Ok (Some (patching a w o))
      → (o + 3 ≤ cl) × (i < length marks / mark_cells)
  patch_writes cl i marks ok e =
      let g = patch_goes (mark_in c.marks marks i) e in
      let u = mark_used c.marks marks i (Open o g.depth) g.mark
      (λ n. clash cc) in
      (omega (arith, g.place, ok.code), omega (arith, u.0, ok.rows))
