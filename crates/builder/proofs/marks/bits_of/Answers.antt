-- `builder::marks::bits_of` meets its contract: the definition's sum.
-- Assumes nothing.
use Rattle.builder.specs.Marks.{bits}
use mathlib.Core.Path.{refl}
use Rattle.builder.proofs.marks.bits_of.Goals as goal

pub returns : goal.returns
unfolding bits
returns c = refl
