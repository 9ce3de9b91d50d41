-- `strict::explain` meets its contract: the old mode's answer, and in strict mode what becomes of what it accepts.
-- Assumes nothing.
use Rattle.std.proofs.lemmas.Result.{err_from_is_err_and}
use Rattle.strict.proofs.Strictness.{by_err, roomy, by_strict}
use Rattle.strict.proofs.explain.Goals as goal

pub returns-in_err-assignment : goal.returns-in_err-assignment
returns-in_err-assignment c =
    let p = err_from_is_err_and c.from_residual.result c.from_residual.ensures.1 in
    rw (p.1, p.2) (by_err c.explain.ensures c.args.mode _ c.in_err-assignment.was)

pub judge-requires : goal.judge-requires
judge-requires c = roomy c.explain.ensures _ c.in_ok-assignment.was

pub returns-in-Strict : goal.returns-in-Strict
returns-in-Strict c =
    by_strict c.explain.ensures _ c.in_ok-assignment.was c.judge.new.depths c.judge.result
    c.judge.ensures c.args.mode c.in-Strict.is
