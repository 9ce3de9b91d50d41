-- `code::lookups::row_covers` meets its contract: the test over the row's two cells.
-- Assumes nothing.
use Rattle.code.proofs.lookups.row_covers.Goals as goal

pub returns : goal.returns
returns c = rw (c.cell_of-start.ensures, c.cell_of-end.ensures) at c.covers.ensures
