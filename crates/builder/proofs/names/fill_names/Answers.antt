-- `builder::names::fill_names` meets its contract: the invariant says that the cells of the names passed stand at the
-- front.
-- Assumes nothing.
use Rattle.builder.proofs.Naming.{map_all, map_more}
use Rattle.builder.specs.Names.{name_cell}
use mathlib.Core.Path.{◌∙◌}
use native.Mathlib.Omega.{arith}
use Rattle.builder.proofs.names.fill_names.Goals as goal

pub loop-i-preserved : goal.loop-i-preserved
loop-i-preserved c =
    let l = c.loop-i in
    rw (l.invariant, c.name_cell.ensures)
    (map_more name_cell c.args.names.now c.args.out.now l.i (omega arith) (omega arith))

pub returns : goal.returns
returns c = c.loop-i.invariant ∙ map_all name_cell c.args.names.now c.args.out.now c.loop-i.i (omega arith)
