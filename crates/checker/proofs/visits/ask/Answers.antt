-- `checker::visits::ask` meets its contract: what would be in hand is put on the list.
-- Assumes nothing.
use mathlib.Core.Path.{ap, ◌∙◌}
use Rattle.std.specs.Prelude.{Ok}
use Rattle.checker.proofs.Visiting.{asked_rests, room_in_hand, asked_put}
use Rattle.checker.proofs.visits.ask.Goals as goal

pub put-requires : goal.put-requires
put-requires c =
    room_in_hand c.args.cells.now c.hold.new.cells c.args.o c.args.depth c.hold.result c.hold.ensures
    c.args.work.now c.args.top c.requires.0 (c.in_ok-place.was ∙ ap Ok c.in-Some.is)

pub returns-in-Some : goal.returns-in-Some
returns-in-Some c =
    asked_put c.args.cells.now c.hold.new.cells c.args.o c.args.depth c.hold.result c.hold.ensures
    c.args.work.now c.args.top c.requires.0 (c.in_ok-place.was ∙ ap Ok c.in-Some.is)
    c.put.ensures.0 c.put.ensures.1

pub returns-in-None : goal.returns-in-None
returns-in-None c =
    asked_rests c.args.cells.now c.hold.new.cells c.args.o c.args.depth c.hold.result c.hold.ensures
    c.args.work.now c.args.top c.requires.0 (c.in_ok-place.was ∙ ap Ok c.in-None.is)
