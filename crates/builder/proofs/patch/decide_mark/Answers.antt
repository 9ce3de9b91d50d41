-- `builder::patch::decide_mark` meets its contract: its test is the definition's.
-- Assumes nothing.
use Rattle.builder.specs.Patch.{mark_plan_of}
use mathlib.Core.Path.{◌∙◌, sym}
use Rattle.builder.proofs.patch.decide_mark.Goals as goal

pub returns-then-not-mark_sound : goal.returns-then-not-mark_sound
unfolding mark_plan_of
returns-then-not-mark_sound c = simp (sym c.mark_sound.ensures ∙ c.if-not-mark_sound.true)

pub decide_kind-requires : goal.decide_kind-requires
decide_kind-requires c = (c.requires, sym c.mark_sound.ensures ∙ c.if-not-mark_sound.false)

pub returns : goal.returns
unfolding mark_plan_of
returns c = simp (sym c.mark_sound.ensures ∙ c.if-not-mark_sound.false) c.decide_kind.ensures
