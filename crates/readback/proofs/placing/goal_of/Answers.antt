-- `readback::placing::goal_of` meets its contract: a law for each return.
-- Assumes nothing.
use Rattle.readback.proofs.Places.{goal_near, goal_far}
use Rattle.readback.proofs.placing.goal_of.Goals as goal

pub returns-then-not-minus : goal.returns-then-not-minus
returns-then-not-minus c = rw c.if-not-minus.true

pub returns-then-by-from : goal.returns-then-by-from
returns-then-by-from c =
    rw c.if-not-minus.false
    (goal_near c.args.at c.args.n c.if-by-from.true)

pub returns : goal.returns
returns c =
    rw c.if-not-minus.false
    (goal_far c.args.at c.args.n c.if-by-from.false)
