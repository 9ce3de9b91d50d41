-- `checker::lists::begin` meets its contract: the loop's invariant: the first k starts have their depths, and the
-- depths are sound.
-- Assumes nothing.
use native.Mathlib.Omega.{arith}
use Rattle.std.proofs.lemmas.Result.{err_from_is_err_and}
use Rattle.checker.proofs.Draining.{begun_stuck, beginning_on}
use Rattle.checker.proofs.lists.begin.Goals as goal

pub returns-in_err-top : goal.returns-in_err-top
returns-in_err-top c =
    let p = err_from_is_err_and c.from_residual.result c.from_residual.ensures.1 in
    rw (p.1, p.2) (begun_stuck c.loop-k.invariant (omega arith) c.start_at-start.ensures.offset
    c.start_at-start.ensures.depth c.ask.new.cells c.ask.new.work c.ask.result c.ask.ensures c.in_err-top.was)

pub loop-k-preserved : goal.loop-k-preserved
loop-k-preserved c =
    beginning_on c.loop-k.invariant (omega arith) c.start_at-start.ensures.offset c.start_at-start.ensures.depth
    c.ask.new.cells c.ask.new.work c.ask.result c.ask.ensures c.in_ok-top.was
