-- `builder::Builder::emit_jump_to` meets its contract: the state around the core's outcome, for each kind of target.
-- Assumes nothing.
use Rattle.std.proofs.lemmas.Result.{err_from_is_err_and}
use Rattle.builder.specs.Emission.{outcome_by}
use Rattle.builder.specs.Back.{emit_jump_to_of}
use mathlib.Core.Path.{ap}
use Rattle.builder.proofs.Builder.emit_jump_to.Goals as goal

pub returns-in_err-core-in-Dead : goal.returns-in_err-core-in-Dead
unfolding emit_jump_to_of
returns-in_err-core-in-Dead c =
    let p = err_from_is_err_and c.from_residual.result c.from_residual.ensures.1 in
    rw (p.1, p.2, c.in-Dead.is) (rw c.in_err-core-in-Dead.was at (ap (outcome_by c.args.self) c.jump_nowhere.ensures))

pub returns-in_ok-core-in-Dead : goal.returns-in_ok-core-in-Dead
unfolding emit_jump_to_of
returns-in_ok-core-in-Dead c =
    rw c.in-Dead.is (rw c.in_ok-core-in-Dead.was at (ap (outcome_by c.args.self) c.jump_nowhere.ensures))

pub returns-in_err-core-in-Row : goal.returns-in_err-core-in-Row
unfolding emit_jump_to_of
returns-in_err-core-in-Row c =
    let p = err_from_is_err_and c.from_residual-in_err-core-in-Row.result c.from_residual-in_err-core-in-Row.ensures.1 in
    rw (p.1, p.2, c.in-Row.is) (rw c.in_err-core-in-Row.was at (ap (outcome_by c.args.self) c.jump_to_core.ensures))

pub returns-in_ok-core-in-Row : goal.returns-in_ok-core-in-Row
unfolding emit_jump_to_of
returns-in_ok-core-in-Row c =
    rw c.in-Row.is (rw c.in_ok-core-in-Row.was at (ap (outcome_by c.args.self) c.jump_to_core.ensures))
