-- `builder::plan::decide` meets its contract: how it begins is the line's, and so is what is decided in parts.
-- Assumes nothing.
use Rattle.std.proofs.lemmas.Result.{err_from_is_err_and}
use Rattle.builder.specs.Plan.{Decision}
use Rattle.std.specs.Prelude.{Ok, Err, None}
use Rattle.builder.proofs.Plans.{enter_live, enters_as, line_enters, plain_live, sound_true}
use Rattle.op.specs.declared.Table.TheVariants.{Locations}
use mathlib.Core.Path.{◌∙◌, ap, sym}
use Rattle.builder.specs.Locations.{row_fits}
use Rattle.builder.specs.Plan.{plain_asked, plan_of}
use Rattle.builder.specs.Inner.{also_row}
use Rattle.builder.proofs.plan.decide.Goals as goal

pub decide_bytes-decision-requires : goal.decide_bytes-decision-requires
decide_bytes-decision-requires c =
    let s = sound_true _ _ _ (enter_live _ _ _ _
    (enters_as _ _ _ c.enter.ensures c.sound.ensures (c.in_ok-entered.was ∙ ap Ok c.in-Some.is))).sound in
    (s.code, s.limit)

pub returns-in_err-entered : goal.returns-in_err-entered
unfolding plan_of
returns-in_err-entered c =
    let a = c.args in
    let p = err_from_is_err_and c.from_residual.result c.from_residual.ensures.1 in rw (p.1, p.2)
    (sym (line_enters (plain_asked a.core a.location a.opcode a.name a.operand a.n a.cl a.ll) (Err _)
    (enters_as _ _ _ c.enter.ensures c.sound.ensures c.in_err-entered.was)))

pub returns-in_default : goal.returns-in_default
unfolding plan_of
returns-in_default c =
    let a = c.args in
    sym (line_enters (plain_asked a.core a.location a.opcode a.name a.operand a.n a.cl a.ll) (Ok None)
    (enters_as _ _ _ c.enter.ensures c.sound.ensures (c.in_ok-entered.was ∙ ap Ok c.in_default.is)))

pub returns : goal.returns
returns c =
    let a = c.args in
    c.also_location.ensures
    ∙ ap (λ (p : Decision). also_row p (row_fits a.location a.core.locations a.ll) Locations)
    c.decide_bytes-decision.ensures
    ∙ sym (plain_live a.core a.location a.opcode a.name a.operand a.n a.cl a.ll _
    (enters_as _ _ _ c.enter.ensures c.sound.ensures (c.in_ok-entered.was ∙ ap Ok c.in-Some.is)))
