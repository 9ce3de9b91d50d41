-- `op::effects::effect` meets its contract: the tests of the shape's number are the definition's, and the rule of the
-- opcode's number is its rule.
-- Assumes nothing.
use mathlib.Core.Path.{◌≡◌}
use Rattle.std.proofs.lemmas.Result.{err_from_is_err_and}
use Rattle.op.proofs.Shaping.{same_shape}
use Rattle.std.specs.Prelude.{Ok}
use Rattle.op.specs.declared.Effect.{Effect}
use mathlib.Core.Path.{◌∙◌, sym, ap, subst}
use Rattle.op.specs.Shapes.{shape_number}
use Rattle.op.specs.Effects.{Small}
use Rattle.op.specs.Inner.{rule_at}
use Rattle.op.proofs.Rules.{rule_small}
use Rattle.op.proofs.Effected.{effect_refused, effect_other, effect_fits, effect_by_lem}
use Rattle.std.proofs.Common.{rules}
use Rattle.op.proofs.effects.effect.Goals as goal

pub returns-in_err-shape : goal.returns-in_err-shape
returns-in_err-shape c =
    let p = err_from_is_err_and c.from_residual.result c.from_residual.ensures.1 in
    rw (p.1, p.2) (effect_refused _ c.args.operand _ (sym c.operand_shape.ensures ∙ c.in_err-shape.was), tt)

pub returns-then-ne : goal.returns-then-ne
returns-then-ne c = (
  effect_other _ c.args.operand _ (sym c.operand_shape.ensures ∙ c.in_ok-shape.was)
      (λ e. let same : c.in_ok-shape.shape ≡ c.from.result = same_shape _ _ (e ∙ ap shape_number (sym c.from.ensures)) in
      search (rules, same)),
  tt,
)

pub returns : goal.returns
returns c =
    let same : c.in_ok-shape.shape ≡ c.from.result = search rules in
    let l = c.last.ensures in
    let f = c.former.ensures in (
      ap Ok (c.rule_effect.ensures ∙ effect_by_lem _ _ _ _ c.args.operand c.rule_number.ensures f.0 l.0)
          ∙ effect_fits _ c.args.operand _ (sym c.operand_shape.ensures ∙ c.in_ok-shape.was)
          (ap shape_number (same ∙ c.from.ensures)),
      subst (λ (e : Effect). Small (Ok e)) (sym c.rule_effect.ensures)
          (rule_small (rule_at c.rule_number.result) _ _ f.1 l.1),
    )
