-- `builder::plan::also_row` meets its contract: an arm for each variant, and the definition's test.
-- Assumes nothing.
use Rattle.std.proofs.lemmas.Result.{err_from_is_err_and}
use mathlib.Core.Path.{refl}
use Rattle.builder.proofs.plan.also_row.Goals as goal

pub returns-in_err-plan : goal.returns-in_err-plan
returns-in_err-plan c = let p = err_from_is_err_and c.from_residual.result c.from_residual.ensures.1 in rw (p.1, p.2) (rw c.in_err-plan.was refl)

pub returns-in_default : goal.returns-in_default
returns-in_default c = rw (c.in_ok-plan.was, c.in_default.is) refl

pub returns-then-free : goal.returns-then-free
returns-then-free c = rw (c.in_ok-plan.was, c.in-Some.is, c.if-free.true) refl

pub returns : goal.returns
returns c = rw (c.in_ok-plan.was, c.in-Some.is, c.if-free.false) refl
