-- `builder::back::jump_nowhere` meets its contract: how it begins is the line's, and no mark is read.
-- Assumes nothing.
use Rattle.std.proofs.lemmas.Result.{err_from_is_err_and}
use Rattle.std.specs.Prelude.{Ok, Err, Some, None}
use Rattle.builder.proofs.JumpPlans.{jumped_to}
use Rattle.builder.proofs.Plans.{enters_as, line_enters}
use Rattle.builder.specs.declared.JumpTarget.TheVariants as T
use Rattle.builder.specs.declared.marks.Mark.TheVariants.{Absent}
use Rattle.op.specs.declared.Refusal.TheVariants.{DeadTarget}
use mathlib.Core.Path.{◌∙◌, refl, sym, ap}
use Rattle.builder.specs.Back.{to_asked, to_plan_of}
use Rattle.builder.proofs.back.jump_nowhere.Goals as goal

pub returns-in_err-entered : goal.returns-in_err-entered
unfolding to_plan_of
returns-in_err-entered c =
    let a = c.args in
    let p = err_from_is_err_and c.from_residual.result c.from_residual.ensures.1 in rw (p.1, p.2)
    (jumped_to a.core a.location a.opcode T.Dead a.code.now a.locations.now a.marks.now (Err _)
    (line_enters (to_asked a.core a.location a.opcode T.Dead Absent _ _ _) (Err _)
    (enters_as _ _ _ c.enter.ensures c.sound_with_marks-sound.ensures c.in_err-entered.was)))

pub returns-in_default : goal.returns-in_default
unfolding to_plan_of
returns-in_default c =
    let a = c.args in
    jumped_to a.core a.location a.opcode T.Dead a.code.now a.locations.now a.marks.now (Ok None)
    (line_enters (to_asked a.core a.location a.opcode T.Dead Absent _ _ _) (Ok None)
    (enters_as _ _ _ c.enter.ensures c.sound_with_marks-sound.ensures (c.in_ok-entered.was ∙ ap Ok c.in_default.is)))

pub returns-in_err-taken : goal.returns-in_err-taken
unfolding to_plan_of
returns-in_err-taken c =
    let a = c.args in
    let p = err_from_is_err_and c.from_residual-in_err-taken.result c.from_residual-in_err-taken.ensures.1 in rw (p.1, p.2)
    (jumped_to a.core a.location a.opcode T.Dead a.code.now a.locations.now a.marks.now (Err _)
    (line_enters (to_asked a.core a.location a.opcode T.Dead Absent _ _ _) (Ok (Some _))
    (enters_as _ _ _ c.enter.ensures c.sound_with_marks-sound.ensures (c.in_ok-entered.was ∙ ap Ok c.in-Some.is))
    ∙ rw (sym c.taken.ensures ∙ c.in_err-taken.was) refl))

pub returns : goal.returns
unfolding to_plan_of
returns c =
    let a = c.args in
    jumped_to a.core a.location a.opcode T.Dead a.code.now a.locations.now a.marks.now (Err DeadTarget)
    (line_enters (to_asked a.core a.location a.opcode T.Dead Absent _ _ _) (Ok (Some _))
    (enters_as _ _ _ c.enter.ensures c.sound_with_marks-sound.ensures (c.in_ok-entered.was ∙ ap Ok c.in-Some.is))
    ∙ rw (sym c.taken.ensures ∙ c.in_ok-taken.was) refl)
