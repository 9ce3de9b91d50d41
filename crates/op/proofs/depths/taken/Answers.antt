-- `op::depths::taken` meets its contract: what `land` ensures of the taken effect.
-- Assumes nothing.
use mathlib.Core.Path.{◌∙◌, ap}
use Rattle.op.specs.Depths.{landing}
use Rattle.op.proofs.depths.taken.Goals as goal

pub returns : goal.returns
returns c = c.land.ensures ∙ ap (landing _ _) c.taken_effect.ensures
