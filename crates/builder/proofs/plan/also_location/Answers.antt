-- `builder::plan::also_location` meets its contract: the callee's promise at the row's test.
-- Assumes nothing.
use Rattle.builder.proofs.plan.also_location.Goals as goal

pub returns : goal.returns
returns c = rw c.row_fits.ensures at c.also_row.ensures
