-- `checker::lists::follow` meets its contract: the loop's invariant: a place is in hand, and all else that has a depth
-- is respected or waits. What falls: the cells less the places visited.
-- Assumes nothing.
use native.Mathlib.Omega.{arith}
use Rattle.std.proofs.lemmas.Result.{err_from_is_err_and}
use Rattle.checker.proofs.Draining.{followed_rests, followed_stuck, followed_holds, draining_fits}
use Rattle.checker.proofs.lists.follow.Goals as goal

pub returns-in_err-passed : goal.returns-in_err-passed
returns-in_err-passed c =
    let p = err_from_is_err_and c.from_residual.result c.from_residual.ensures.1 in
    rw (p.1, p.2) (followed_stuck c.places.invariant.1 c.expand.new.cells c.expand.new.work c.expand.result
    c.expand.ensures c.in_err-passed.was)

pub overflow_add-taken : goal.overflow_add-taken
overflow_add-taken c = omega (arith, draining_fits c.places.invariant.1.draining, c.requires.1)

pub returns-in_default : goal.returns-in_default
returns-in_default c =
    let before = c.places.invariant.0 in (
      omega arith,
      followed_rests c.places.invariant.1 c.expand.new.cells c.expand.new.work c.expand.result
          c.expand.ensures c.in_ok-passed.was c.in_default.is,
    )

pub places-smaller : goal.places-smaller
places-smaller c = omega (arith, draining_fits c.places.invariant.1.draining, c.places.invariant.1.draining.size)

pub places-preserved : goal.places-preserved
places-preserved c =
    let before = c.places.invariant.0 in (
      omega arith,
      followed_holds c.places.invariant.1 c.expand.new.cells c.expand.new.work c.expand.result
          c.expand.ensures c.in_ok-passed.was c.in-Some.is,
    )
