-- `op::effects::stack_effect` meets its contract: what `net` ensures of the effect.
-- Assumes nothing.
use Rattle.op.specs.Effects.{net_of}
use mathlib.Core.Path.{◌∙◌, ap}
use Rattle.op.proofs.effects.stack_effect.Goals as goal

pub net-requires : goal.net-requires
net-requires c = c.effect.ensures.1

pub returns : goal.returns
returns c = c.net.ensures ∙ ap net_of c.effect.ensures.0
