-- `checker::visits::land` meets its contract: the two tests are the two ends of the range.
-- Assumes nothing.
use Prim.Native.Nat.{◌+◌, ◌-◌}
use native.Mathlib.Omega.{arith}
use Rattle.checker.proofs.Visiting.{landed_low, landed_high, landed}
use Rattle.checker.proofs.visits.land.Goals as goal
use Rattle.checker.proofs.visits.land.Goals.{then-have-need-via-then-have-need}
use Rattle.checker.proofs.visits.land.Goals.{then-have-need-via-else-have-need+then-from-have}

pub returns-then-have-need : goal.returns-then-have-need
returns-then-have-need c = elim c.then-have-need.branch [
  | then-have-need-via-then-have-need w ↦ landed_low c.args.depth c.args.change (omega arith)
  | then-have-need-via-else-have-need+then-from-have w ↦ landed_high c.args.depth c.args.change
      (c.from.result + c.from-2.result - c.from-need.result) (omega arith) (omega arith)
]

pub returns : goal.returns
returns c =
    landed c.args.depth c.args.change (c.from.result + c.from-2.result - c.from-need.result) (omega arith)
    (omega arith)
