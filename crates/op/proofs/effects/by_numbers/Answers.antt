-- `op::effects::by_numbers` meets its contract: the rule of the opcode's number is its rule.
-- Assumes nothing.
use Rattle.std.specs.Prelude.{Ok}
use mathlib.Core.Path.{◌∙◌, sym, ap, subst}
use native.Mathlib.Omega.{arith}
use Rattle.op.specs.Effects.{Small}
use Rattle.op.specs.declared.Effect.{Effect}
use Rattle.op.specs.Inner.{rule_at}
use Rattle.op.proofs.Effected.{known_above, known_below, from_unknown, from_rule}
use Rattle.op.proofs.Rules.{rule_small}
use Rattle.op.proofs.effects.by_numbers.Goals as goal

pub returns-then-opcode-gt-LAST : goal.returns-then-opcode-gt-LAST
returns-then-opcode-gt-LAST c = (from_unknown _ _ _ (known_above c.if-opcode-gt-LAST.true), tt)

pub returns : goal.returns
returns c =
    let e = c.rule_number.result in (
      ap Ok c.rule_effect.ensures ∙ from_rule _ (known_below c.if-opcode-gt-LAST.false) e c.rule_number.ensures _ _,
      subst (λ (e : Effect). Small (Ok e)) (sym c.rule_effect.ensures) (rule_small (rule_at e) _ _ (omega arith) (omega arith)),
    )
