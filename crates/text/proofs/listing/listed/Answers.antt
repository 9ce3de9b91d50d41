-- `text::listing::listed` meets its contract: its test is that of the definition.
-- Assumes nothing.
use borrow.Author.Tests.{le-leb, lt-leb}
use Rattle.text.proofs.listing.listed.Goals as goal

pub returns-then-size-le-MOST : goal.returns-then-size-le-MOST
returns-then-size-le-MOST c = rw (le-leb c.args.size 65536 c.if-size-le-MOST.true)

pub returns-else-size-le-MOST : goal.returns-else-size-le-MOST
returns-else-size-le-MOST c = rw (lt-leb c.args.size 65536 c.if-size-le-MOST.false)
