-- `text::listing::go_on` meets its contract: what was put, where the lines end.
-- Assumes nothing.
use native.Mathlib.Omega.{arith}
use Rattle.text.proofs.Progressing.{goes, near}
use Rattle.text.proofs.listing.go_on.Goals as goal

pub said-requires : goal.said-requires
said-requires c = near 18446744073709551615 c.fill.ensures.0 c.requires.1 (omega (arith, c.requires.0.small))

pub returns : goal.returns
returns c = rw c.said.ensures (goes c.fill.ensures.0 c.fill.ensures.1)
