-- `builder::Builder::current_position` meets its contract: an arm for each variant.
-- Assumes nothing.
use mathlib.Core.Path.{refl}
use Rattle.builder.proofs.Builder.current_position.Goals as goal

pub returns-in-None : goal.returns-in-None
returns-in-None c = rw c.in-None.is refl
