-- `builder::Builder::patch_jump` meets its contract: each plan is what the model says.
-- Assumes nothing.
use Rattle.std.proofs.lemmas.Result.{err_from_is_err_and}
use Rattle.builder.specs.Patch.{patching}
use Rattle.std.specs.Prelude.{Ok, Err, Some, None}
use Rattle.builder.proofs.PatchPlans.{markable_true, patch_writes, patched_row}
use Rattle.builder.specs.Patch.{mark_plan_of, patch_jump_of, patch_plan_of}
use Rattle.builder.specs.declared.marks.Mark.{Mark}
use Rattle.builder.specs.Marks.{mark_in, markable}
use lib.ListN.{length}
use mathlib.Core.Bool.{true}
use mathlib.Core.Path.{◌≡◌, ◌∙◌, ap, sym}
use Rattle.builder.proofs.Builder.patch_jump.Goals as goal
use Rattle.builder.proofs.Builder.patch_jump.Goals.{Else-not-counts_sound, After-decide_mark}

-- the counts are sound behind the test
sound : (c : Else-not-counts_sound)
    → markable c.args.self.core (length c.args.code.now) (length c.args.marks.now) ≡ true
sound c = sym c.counts_sound.ensures ∙ c.if-not-counts_sound.false

-- what is decided of the mark that the label names
decided : (c : After-decide_mark)
    → mark_plan_of (mark_in c.args.self.core.marks c.args.marks.now c.in-Row.i) c.args.self.core ≡ c.decide_mark.result
decided c = ap (λ (m : Mark). mark_plan_of m c.args.self.core) (sym c.mark_in-mark.ensures) ∙ sym c.decide_mark.ensures

pub returns-then-not-counts_sound : goal.returns-then-not-counts_sound
unfolding patch_jump_of patch_plan_of
returns-then-not-counts_sound c = simp (sym c.counts_sound.ensures ∙ c.if-not-counts_sound.true)

pub returns-in_default : goal.returns-in_default
unfolding patch_jump_of patch_plan_of
returns-in_default c = simp (sound (goal.at.returns-in_default c).Else-not-counts_sound, c.in_default.is)

pub mark_in-mark-requires : goal.mark_in-mark-requires
mark_in-mark-requires c = (markable_true _ _ _ (sound (goal.at.mark_in-mark-requires c).Else-not-counts_sound)).rows

pub decide_mark-requires : goal.decide_mark-requires
decide_mark-requires c = (markable_true _ _ _ (sound (goal.at.decide_mark-requires c).Else-not-counts_sound)).limit

pub commit_patch-next-requires : goal.commit_patch-next-requires
commit_patch-next-requires c =
    let at = goal.at.commit_patch-next-requires c in
    patch_writes c.args.self.core _ _ _ (length c.args.code.now) _ c.args.marks.now
    (markable_true _ _ _ (sound at.Else-not-counts_sound))
    (decided at.After-decide_mark ∙ c.in_ok-decision.was ∙ ap Ok c.in-Some.is)

pub returns-in_err-decision : goal.returns-in_err-decision
returns-in_err-decision c =
    let a = c.args in
    let at = goal.at.returns-in_err-decision c in
    let p = err_from_is_err_and c.from_residual.result c.from_residual.ensures.1 in rw (p.1, p.2)
    (patched_row a.self a.label _ a.code.now a.marks.now (Err _) c.in-Row.is (sound at.Else-not-counts_sound)
    (decided at.After-decide_mark ∙ c.in_err-decision.was))

pub returns-in_default-decision : goal.returns-in_default-decision
returns-in_default-decision c =
    let a = c.args in
    let at = goal.at.returns-in_default-decision c in
    patched_row a.self a.label _ a.code.now a.marks.now (Ok None) c.in-Row.is (sound at.Else-not-counts_sound)
    (decided at.After-decide_mark ∙ c.in_ok-decision.was ∙ ap Ok c.in_default-decision.is)

pub returns : goal.returns
returns c =
    let a = c.args in
    let at = goal.at.returns c in
    let w = c.commit_patch-next.ensures in
    rw (w.state, w.bytes, w.kind)
    (patched_row a.self a.label _ a.code.now a.marks.now (Ok (Some (patching _ _ _))) c.in-Row.is
    (sound at.Else-not-counts_sound)
    (decided at.After-decide_mark ∙ c.in_ok-decision.was ∙ ap Ok c.in-Some.is))
