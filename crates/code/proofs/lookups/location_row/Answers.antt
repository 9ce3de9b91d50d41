-- `code::lookups::location_row` meets its contract: a cell for each field.
-- Assumes nothing.
use Rattle.code.proofs.lookups.location_row.Goals as goal

pub returns : goal.returns
returns c =
    rw (
      c.cell_of.ensures,
      c.cell_of-2.ensures,
      c.cell_of-3.ensures,
      c.cell_of-4.ensures,
      c.cell_of-5.ensures,
      c.cell_of-6.ensures,
    )
