-- `code::lookups::cell_of` meets its contract: a counted row's cells stand in the table.
-- Assumes nothing.
use native.Mathlib.Omega.{arith}
use Rattle.code.proofs.Rows.{cell_inside}
use Rattle.code.proofs.lookups.cell_of.Goals as goal

pub bounds-rows-row : goal.bounds-rows-row
bounds-rows-row c = omega (arith, cell_inside c.args.width c.args.rows.now c.args.row c.args.k c.requires.0 c.requires.1)
