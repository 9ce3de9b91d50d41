-- `code::lookups::local_name` meets its contract: its tests are those of the definition.
-- Assumes nothing.
use Rattle.std.proofs.Common.{rules}
use Rattle.code.specs.Lookups.{local_name_of}
use Rattle.code.proofs.lookups.local_name.Goals as goal

pub returns-in_err-held : goal.returns-in_err-held
unfolding local_name_of
returns-in_err-held c = rw c.from_residual.ensures (search rules)

pub returns-in_err-name : goal.returns-in_err-name
unfolding local_name_of
returns-in_err-name c = rw c.from_residual-in_err-name.ensures (search rules)

pub returns : goal.returns
unfolding local_name_of
returns c = search rules
