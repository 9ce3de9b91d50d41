-- `text::lines::first` meets its contract: its test is that of the definition.
-- Assumes nothing.
use Rattle.text.proofs.Lining.{first_header, first_fault}
use Rattle.text.proofs.Putting.{same_places}
use Rattle.text.proofs.lines.first.Goals as goal

pub returns-then-size-le-MOST : goal.returns-then-size-le-MOST
returns-then-size-le-MOST c = same_places (first_header c.args.size c.if-size-le-MOST.true) c.header.ensures

pub returns : goal.returns
returns c = same_places (first_fault c.args.size c.if-size-le-MOST.false) c.fault.ensures
