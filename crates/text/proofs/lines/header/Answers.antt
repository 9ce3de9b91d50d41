-- `text::lines::header` meets its contract: its bytes are those of the definition, by computation.
-- Assumes nothing.
use Rattle.text.specs.Listing.{header}
use Rattle.text.proofs.lines.header.Goals as goal

pub returns : goal.returns
unfolding header
returns c = c.bytes.ensures
