-- `builder::forward::decide_jump` meets its contract: how it begins is the line's.
-- Assumes nothing.
use Rattle.std.proofs.lemmas.Result.{err_from_is_err_and}
use Rattle.std.specs.Prelude.{Ok, Err, None}
use Rattle.builder.proofs.Plans.{enters_as, line_enters}
use mathlib.Core.Path.{sym, ◌∙◌, ap}
use Rattle.builder.specs.Forward.{jump_asked, jump_plan_of}
use Rattle.builder.proofs.forward.decide_jump.Goals as goal

pub decide_jump_live-requires : goal.decide_jump_live-requires
decide_jump_live-requires c =
    enters_as _ _ _ c.enter.ensures c.sound_with_marks-sound.ensures (c.in_ok-entered.was ∙ ap Ok c.in-Some.is)

pub returns-in_err-entered : goal.returns-in_err-entered
unfolding jump_plan_of
returns-in_err-entered c =
    let a = c.args in
    let p = err_from_is_err_and c.from_residual.result c.from_residual.ensures.1 in rw (p.1, p.2)
    (sym (line_enters (jump_asked a.core a.location a.opcode a.cl a.ll a.ml) (Err _)
    (enters_as _ _ _ c.enter.ensures c.sound_with_marks-sound.ensures c.in_err-entered.was)))

pub returns-in_default : goal.returns-in_default
unfolding jump_plan_of
returns-in_default c =
    let a = c.args in
    sym (line_enters (jump_asked a.core a.location a.opcode a.cl a.ll a.ml) (Ok None)
    (enters_as _ _ _ c.enter.ensures c.sound_with_marks-sound.ensures (c.in_ok-entered.was ∙ ap Ok c.in_default.is)))
