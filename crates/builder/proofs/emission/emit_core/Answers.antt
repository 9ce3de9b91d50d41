-- `builder::emission::emit_core` meets its contract: each plan is what the model says.
-- Assumes nothing.
use Rattle.std.proofs.lemmas.Result.{err_from_is_err_and}
use Rattle.builder.specs.Plan.{planned}
use Rattle.std.specs.Prelude.{Ok, Err, Some, None}
use Rattle.builder.proofs.Emitted.{emitted}
use Rattle.builder.proofs.Plans.{goes, plan_goes}
use borrow.Author.Rules.{part_to_end}
use mathlib.Core.Path.{◌∙◌, sym, ap}
use native.Mathlib.Omega.{arith}
use Rattle.builder.proofs.emission.emit_core.Goals as goal

pub commit-rows-requires : goal.commit-rows-requires
commit-rows-requires c =
    rw (part_to_end c.args.kwnames.now 0)
    (goes _ _ c.args.opcode c.args.name _ _ _ _ _ _ _
    (sym c.decide.ensures ∙ c.in_ok-decision.was ∙ ap Ok c.in-Some.is))

pub grown-requires : goal.grown-requires
grown-requires c =
    let g = plan_goes _ _ c.args.opcode c.args.name _ _ _ _ _ _ _
    (sym c.decide.ensures ∙ c.in_ok-decision.was ∙ ap Ok c.in-Some.is) in
    omega (arith, g.goes.limit, g.sound.limit)

pub returns-in_err-decision : goal.returns-in_err-decision
returns-in_err-decision c =
    let a = c.args in
    let p = err_from_is_err_and c.from_residual.result c.from_residual.ensures.1 in rw (p.1, p.2)
    (emitted a.core a.location a.opcode a.name a.operand a.kwnames.now a.code.now a.locations.now (Err _)
    (sym c.decide.ensures ∙ c.in_err-decision.was))

pub returns-in_default : goal.returns-in_default
returns-in_default c =
    let a = c.args in emitted a.core a.location a.opcode a.name a.operand a.kwnames.now
    a.code.now a.locations.now (Ok None) (sym c.decide.ensures ∙ c.in_ok-decision.was ∙ ap Ok c.in_default.is)

pub returns : goal.returns
returns c =
    let a = c.args in
    let w = rw (part_to_end a.kwnames.now 0) at c.commit-rows.ensures in
    rw (c.grown.ensures, w.count, w.bytes, w.rows)
    (emitted a.core a.location a.opcode a.name a.operand a.kwnames.now a.code.now
    a.locations.now (Ok (Some (planned _ _ _))) (sym c.decide.ensures ∙ c.in_ok-decision.was ∙ ap Ok c.in-Some.is))
