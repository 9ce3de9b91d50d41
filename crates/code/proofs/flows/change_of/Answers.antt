-- `code::flows::change_of` meets its contract: the definition goes by the same cases.
-- Assumes nothing.
use Rattle.code.proofs.flows.change_of.Goals as goal

pub returns-in-Ok : goal.returns-in-Ok
returns-in-Ok c = rw c.in-Ok.is

pub returns-in-Err : goal.returns-in-Err
returns-in-Err c = rw c.in-Err.is
