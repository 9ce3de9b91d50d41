-- `op::depths::after` meets its contract: what `land` ensures of the effect.
-- Assumes nothing.
use mathlib.Core.Path.{◌∙◌, ap}
use Rattle.op.specs.Depths.{landing}
use Rattle.op.proofs.depths.after.Goals as goal

pub returns : goal.returns
returns c = c.land.ensures ∙ ap (landing _ _) c.effect.ensures.0
