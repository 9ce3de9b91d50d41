-- `readback::headed` meets its contract: the library's test is the definition's.
-- Assumes nothing.
use Rattle.std.proofs.Common.{◌∙◌, length, take}
use Rattle.text.specs.Listing.{header}
use Rattle.readback.proofs.Cutting.{same_back}
use Rattle.readback.proofs.headed.Goals as goal

pub returns : goal.returns
unfolding header
returns c = c.starts_with.ensures.value ∙ same_back header (take (length header) c.args.text.now)
