-- `builder::marks::any_open` meets its contract: the invariant says what was found below `i`.
-- Assumes nothing.
use Rattle.builder.proofs.Naming.{open_more}
use Rattle.builder.specs.Marks.{any_open}
use mathlib.Core.Path.{refl}
use Rattle.builder.proofs.marks.any_open.Goals as goal

pub loop-i-init : goal.loop-i-init
unfolding any_open
loop-i-init c = refl

pub loop-i-preserved : goal.loop-i-preserved
loop-i-preserved c = open_more c.args.marks.now c.loop-i.i c.loop-i.found c.loop-i.invariant
