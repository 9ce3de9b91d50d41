-- `code::lookups::constant` meets its contract: what the library's lookup finds is what the definition has.
-- Assumes nothing.
use Rattle.std.proofs.Common.{rules}
use Rattle.code.specs.Lookups.{constant_of}
use Rattle.code.proofs.lookups.constant.Goals as goal

pub returns : goal.returns
unfolding constant_of
returns c = search rules
