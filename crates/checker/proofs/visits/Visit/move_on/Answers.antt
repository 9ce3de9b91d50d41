-- `checker::visits::Visit::move_on` meets its contract: the jump, then the fall through.
-- Assumes nothing.
use Rattle.std.proofs.lemmas.Result.{err_from_is_err_and}
use Rattle.checker.proofs.Visiting.{moved_stuck, moved_in_hand}
use Rattle.checker.proofs.visits.Visit.move_on.Goals as goal

pub returns-in_err-top : goal.returns-in_err-top
returns-in_err-top c =
    let v = c.args.self in
    let p = err_from_is_err_and c.from_residual.result c.from_residual.ensures.1 in
    rw (p.1, p.2) (moved_stuck v.flow c.args.cells.now c.leap.new.cells c.args.work.now c.leap.new.work c.args.top
    v.at v.depth c.leap.result c.leap.ensures c.in_err-top.was)

pub returns-in_err-next : goal.returns-in_err-next
returns-in_err-next c =
    let v = c.args.self in
    let p = err_from_is_err_and c.from_residual-in_err-next.result c.from_residual-in_err-next.ensures.1 in
    rw (p.1, p.2) (moved_in_hand v.flow c.args.cells.now c.leap.new.cells c.args.work.now c.leap.new.work c.args.top
    v.at v.depth c.leap.result c.leap.ensures c.in_ok-top.was c.fall.new.cells c.fall.result c.fall.ensures
    c.in_err-next.was)

pub returns : goal.returns
returns c =
    let v = c.args.self in
    moved_in_hand v.flow c.args.cells.now c.leap.new.cells c.args.work.now c.leap.new.work c.args.top
    v.at v.depth c.leap.result c.leap.ensures c.in_ok-top.was c.fall.new.cells c.fall.result c.fall.ensures
    c.in_ok-next.was
