-- `op::effects::jump_taken_stack_effect` meets its contract: what `net` ensures of the taken effect.
-- Assumes nothing.
use mathlib.Core.Path.{◌∙◌, sym, ap, subst}
use Rattle.op.specs.Effects.{net_of, Small}
use Rattle.op.proofs.Rules.{taken_small}
use mathlib.Core.Path.{◌∙◌, sym, ap}
use Rattle.op.proofs.effects.jump_taken_stack_effect.Goals as goal

pub net-requires : goal.net-requires
net-requires c = subst Small (sym c.taken_effect.ensures) (taken_small c.args.opcode)

pub returns : goal.returns
returns c = c.net.ensures ∙ ap net_of c.taken_effect.ensures
