-- `builder::plan::behind_op` meets its contract: its test is the definition's.
-- Assumes nothing.
use Rattle.builder.specs.Plan.{behind}
use mathlib.Core.Path.{◌∙◌, sym}
use Rattle.builder.proofs.plan.behind_op.Goals as goal

pub returns-then-is_dead_maker : goal.returns-then-is_dead_maker
unfolding behind
returns-then-is_dead_maker c = simp (sym c.is_dead_maker.ensures ∙ c.if-is_dead_maker.true)

pub returns-else-is_dead_maker : goal.returns-else-is_dead_maker
unfolding behind
returns-else-is_dead_maker c = simp (sym c.is_dead_maker.ensures ∙ c.if-is_dead_maker.false)
