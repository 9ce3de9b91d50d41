-- `builder::patch::decide_open` meets its contract: its tests are the definition's.
-- Assumes nothing.
use Rattle.builder.proofs.JumpPlans.{near_true}
use mathlib.Core.Path.{◌∙◌, refl, sym}
use native.Mathlib.Omega.{arith}
use Rattle.builder.proofs.patch.decide_open.Goals as goal

pub returns-then-not-meets_depth : goal.returns-then-not-meets_depth
returns-then-not-meets_depth c = simp (sym c.meets_depth.ensures ∙ c.if-not-meets_depth.true)

pub returns-then-not-is_near : goal.returns-then-not-is_near
returns-then-not-is_near c =
    simp (
      sym c.meets_depth.ensures ∙ c.if-not-meets_depth.false,
      sym c.is_near.ensures ∙ c.if-not-is_near.true,
    )

pub bits_of-requires : goal.bits_of-requires
bits_of-requires c =
    let h = near_true _ _ (sym c.is_near.ensures ∙ c.if-not-is_near.false) in
    (omega (arith, h), omega arith)

pub returns : goal.returns
returns c =
    rw (
      sym c.meets_depth.ensures ∙ c.if-not-meets_depth.false,
      sym c.is_near.ensures ∙ c.if-not-is_near.false,
      c.revive.ensures,
      c.bits_of.ensures,
    ) refl
