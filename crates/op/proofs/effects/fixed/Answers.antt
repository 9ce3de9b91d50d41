-- `op::effects::fixed` meets its contract: the first six rules are differences, and the others go by their operand.
-- Assumes nothing.
use Rattle.op.proofs.Effected.{known_above, known_below, fixed_unknown, fixed_first, fixed_rest}
use Rattle.op.proofs.effects.fixed.Goals as goal

pub returns-then-opcode-gt-LAST : goal.returns-then-opcode-gt-LAST
returns-then-opcode-gt-LAST c = fixed_unknown _ (known_above c.if-opcode-gt-LAST.true)

pub returns-then-rule-gt-PLUS_2 : goal.returns-then-rule-gt-PLUS_2
returns-then-rule-gt-PLUS_2 c = fixed_rest _ (known_below c.if-opcode-gt-LAST.false) _ c.rule_number-rule.ensures c.if-rule-gt-PLUS_2.true

pub returns : goal.returns
returns c =
    fixed_first _ (known_below c.if-opcode-gt-LAST.false) _ c.rule_number-rule.ensures _ _ c.if-rule-gt-PLUS_2.false
    c.over.ensures c.over-2.ensures
