-- `builder::marks::meets_depth` meets its contract: an arm for each variant.
-- Assumes nothing.
use mathlib.Core.Path.{refl}
use Rattle.builder.proofs.marks.meets_depth.Goals as goal

pub returns-in-Some : goal.returns-in-Some
returns-in-Some c = rw c.in-Some.is refl
