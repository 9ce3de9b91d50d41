-- `op::effects::is_dead_maker` meets its contract: each arm's number is one of the six, and no other is.
-- Assumes nothing.
use borrow.Author.Tests.{ne_eqb}
use Rattle.op.specs.Effects.{dead_maker}
use Rattle.base.proofs.Keys.{at}
use Rattle.op.proofs.effects.is_dead_maker.Goals as goal

pub returns-in-101 : goal.returns-in-101
unfolding dead_maker
returns-in-101 c = at dead_maker c.in-101.is

pub returns-in-97 : goal.returns-in-97
unfolding dead_maker
returns-in-97 c = at dead_maker c.in-97.is

pub returns-in-98 : goal.returns-in-98
unfolding dead_maker
returns-in-98 c = at dead_maker c.in-98.is

pub returns-in-116 : goal.returns-in-116
unfolding dead_maker
returns-in-116 c = at dead_maker c.in-116.is

pub returns-in-119 : goal.returns-in-119
unfolding dead_maker
returns-in-119 c = at dead_maker c.in-119.is

pub returns-in-88 : goal.returns-in-88
unfolding dead_maker
returns-in-88 c = at dead_maker c.in-88.is

pub returns-in_default : goal.returns-in_default
unfolding dead_maker
returns-in_default c =
    let r = c.in_default.in_default-own.rest in
    simp (ne_eqb _ _ r.1, ne_eqb _ _ r.0.1, ne_eqb _ _ r.0.0.1, ne_eqb _ _ r.0.0.0.1, ne_eqb _ _ r.0.0.0.0.1, ne_eqb _ _ r.0.0.0.0.0.1)
