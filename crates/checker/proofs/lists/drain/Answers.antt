-- `checker::lists::drain` meets its contract: the loop's invariant: what has a depth is respected or waits, and the
-- places visited and those that wait are as many as have a depth. What falls: the cells less the places visited.
-- Assumes nothing.
use Rattle.checker.proofs.Draining.{last_inside, drained_less}
use Rattle.checker.proofs.lists.drain.Goals as goal

pub take-at-requires : goal.take-at-requires
take-at-requires c = last_inside c.loop-top.invariant c.loop-top-test.true

pub loop-top-smaller : goal.loop-top-smaller
loop-top-smaller c =
    drained_less c.loop-top.invariant c.follow.new.cells c.follow.new.work c.follow.result c.follow.ensures
    c.in_ok-ran.was
