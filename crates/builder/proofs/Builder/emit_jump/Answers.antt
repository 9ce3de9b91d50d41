-- `builder::Builder::emit_jump` meets its contract: each plan is what the model says.
-- Assumes nothing.
use Rattle.std.proofs.lemmas.Result.{err_from_is_err_and}
use Rattle.builder.specs.Plan.{planned}
use Rattle.std.specs.Prelude.{Ok, Err, Some, None}
use Rattle.builder.proofs.JumpPlans.{emitted_jump, jump_goes}
use mathlib.Core.Path.{◌∙◌, sym, ap}
use Rattle.builder.proofs.Builder.emit_jump.Goals as goal

pub commit_jump-next-requires : goal.commit_jump-next-requires
commit_jump-next-requires c =
    jump_goes _ _ c.args.opcode _ _ _ _ _ _
    (sym c.decide_jump.ensures ∙ c.in_ok-decision.was ∙ ap Ok c.in-Some.is)

pub returns-in_err-decision : goal.returns-in_err-decision
returns-in_err-decision c =
    let a = c.args in
    let p = err_from_is_err_and c.from_residual.result c.from_residual.ensures.1 in rw (p.1, p.2)
    (emitted_jump a.self a.opcode a.code.now a.locations.now a.marks.now (Err _)
    (sym c.decide_jump.ensures ∙ c.in_err-decision.was))

pub returns-in_default : goal.returns-in_default
returns-in_default c =
    let a = c.args in emitted_jump a.self a.opcode a.code.now a.locations.now a.marks.now (Ok None)
    (sym c.decide_jump.ensures ∙ c.in_ok-decision.was ∙ ap Ok c.in_default.is)

pub returns : goal.returns
returns c =
    let a = c.args in
    let w = c.commit_jump-next.ensures in
    rw (w.state, w.bytes, w.rows, w.mark)
    (emitted_jump a.self a.opcode a.code.now a.locations.now a.marks.now (Ok (Some (planned _ _ _)))
    (sym c.decide_jump.ensures ∙ c.in_ok-decision.was ∙ ap Ok c.in-Some.is))
