-- `builder::emission::emit_with_names` meets its contract: the state around the core's outcome.
-- Assumes nothing.
use Rattle.std.proofs.lemmas.Result.{err_from_is_err_and}
use Rattle.builder.specs.Emission.{emit_named, outcome_by}
use mathlib.Core.Path.{ap}
use Rattle.builder.proofs.emission.emit_with_names.Goals as goal

pub returns-in_err-core : goal.returns-in_err-core
unfolding emit_named
returns-in_err-core c =
    let p = err_from_is_err_and c.from_residual.result c.from_residual.ensures.1 in rw (p.1, p.2)
    (rw c.in_err-core.was at (ap (outcome_by c.args.b) c.emit_core.ensures))

pub returns : goal.returns
unfolding emit_named
returns c = rw c.in_ok-core.was at (ap (outcome_by c.args.b) c.emit_core.ensures)
