-- `checker::lists::reach` meets its contract: after the starts all that has a depth waits, and once nothing waits the
-- depths are an assignment.
-- Assumes nothing.
use Prim.Native.Nat.{suc}
use native.Mathlib.Omega.{arith}
use lib.ListN.{length}
use Rattle.std.proofs.lemmas.Result.{err_from_is_err_and}
use Rattle.checker.proofs.Holding.{all_size}
use Rattle.checker.proofs.Draining.{came_stuck, loaded, came}
use Rattle.checker.proofs.lists.reach.Goals as goal

pub returns-in_err-top : goal.returns-in_err-top
returns-in_err-top c =
    let p = err_from_is_err_and c.from_residual.result c.from_residual.ensures.1 in
    rw (p.1, p.2) (came_stuck c.requires.0 c.requires.2 c.requires.3 c.begin.new.cells c.begin.new.work
    c.begin.result c.begin.ensures c.in_err-top.was _)

pub drain-requires : goal.drain-requires
drain-requires c =
    let size = all_size (suc (length c.args.code.now)) 65536 c.args.cells.now c.requires.0 in (
      loaded c.requires.0 c.requires.2 c.requires.3 c.begin.new.cells c.begin.new.work c.begin.result
          c.begin.ensures c.in_ok-top.was,
      omega arith,
    )

pub returns : goal.returns
returns c =
    came c.requires.0 c.requires.2 c.requires.3 c.begin.new.cells c.begin.new.work c.begin.result c.begin.ensures
    c.in_ok-top.was c.drain.new.cells c.drain.result c.drain.ensures
