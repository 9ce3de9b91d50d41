-- `builder::back::decide_to_live` meets its contract: the taken depth is op's, and the arms are the line's.
-- Assumes nothing.
use Rattle.std.proofs.lemmas.Result.{err_from_is_err_and}
use Rattle.builder.specs.Plan.{emitting_of}
use mathlib.Core.Path.{◌∙◌, sym}
use Rattle.builder.proofs.back.decide_to_live.Goals as goal

pub returns-in_err-e : goal.returns-in_err-e
unfolding emitting_of
returns-in_err-e c row ml lives = let p = err_from_is_err_and c.from_residual.result c.from_residual.ensures.1 in rw (p.1, p.2) (simp (lives, sym c.taken.ensures ∙ c.in_err-e.was))

pub returns : goal.returns
returns c row ml lives = c.decide_spot.ensures row ml lives (sym c.taken.ensures ∙ c.in_ok-e.was)
