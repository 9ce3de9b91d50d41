-- `builder::locations::write_row` meets its contract: an arm for each variant.
-- Assumes nothing.
use Rattle.builder.proofs.locations.write_row.Goals as goal

pub returns-in-None : goal.returns-in-None
returns-in-None c = rw c.in-None.is c.put.ensures

pub returns-in-Some : goal.returns-in-Some
returns-in-Some c = rw c.in-Some.is c.put-in-Some.ensures
