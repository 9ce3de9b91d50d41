-- `builder::back::decide_to` meets its contract: how it begins is the line's, with the mark that was read.
-- Assumes nothing.
use Rattle.std.proofs.lemmas.Result.{err_from_is_err_and}
use Rattle.std.specs.Prelude.{Ok, Err, Some, None}
use Rattle.builder.proofs.JumpPlans.{at_mark, to_enters, to_unsound}
use Rattle.builder.proofs.Plans.{enters_as, line_enters, marks_sound}
use Rattle.builder.specs.declared.JumpTarget.TheVariants as T
use mathlib.Core.Path.{◌∙◌, refl, sym, ap}
use Rattle.builder.specs.Marks.{mark_in}
use Rattle.builder.specs.Back.{to_asked}
use Rattle.builder.proofs.back.decide_to.Goals as goal

pub returns-then-not-sound_with_marks : goal.returns-then-not-sound_with_marks
returns-then-not-sound_with_marks c =
    let a = c.args in
    sym (to_unsound a.core a.location a.opcode (T.Row a.row)
    (mark_in a.core.marks a.marks.now a.row) a.cl a.ll _
    (sym c.sound_with_marks.ensures ∙ c.if-not-sound_with_marks.true))
    ∙ at_mark a.core a.location a.opcode a.row a.cl a.ll a.marks.now _ refl

pub mark_in-mark-requires : goal.mark_in-mark-requires
mark_in-mark-requires c = (marks_sound _ _ _ _ (sym c.sound_with_marks.ensures ∙ c.if-not-sound_with_marks.false)).0

pub decide_to_live-requires : goal.decide_to_live-requires
decide_to_live-requires c = (marks_sound _ _ _ _ (sym c.sound_with_marks.ensures ∙ c.if-not-sound_with_marks.false)).1

pub returns-in_err-entered : goal.returns-in_err-entered
returns-in_err-entered c =
    let a = c.args in
    let m = c.mark_in-mark.result in
    let p = err_from_is_err_and c.from_residual.result c.from_residual.ensures.1 in rw (p.1, p.2)
    (sym (line_enters (to_asked a.core a.location a.opcode (T.Row a.row) m a.cl a.ll _) (Err _)
    (to_enters a.core a.location a.opcode (T.Row a.row) m a.cl a.ll _ (Err _)
    (sym c.sound_with_marks.ensures ∙ c.if-not-sound_with_marks.false)
    (enters_as _ _ _ c.enter.ensures c.mark_sound.ensures c.in_err-entered.was)))
    ∙ at_mark a.core a.location a.opcode a.row a.cl a.ll a.marks.now m c.mark_in-mark.ensures)

pub returns-in_default : goal.returns-in_default
returns-in_default c =
    let a = c.args in
    let m = c.mark_in-mark.result in
    sym (line_enters (to_asked a.core a.location a.opcode (T.Row a.row) m a.cl a.ll _) (Ok None)
    (to_enters a.core a.location a.opcode (T.Row a.row) m a.cl a.ll _ (Ok None)
    (sym c.sound_with_marks.ensures ∙ c.if-not-sound_with_marks.false)
    (enters_as _ _ _ c.enter.ensures c.mark_sound.ensures (c.in_ok-entered.was ∙ ap Ok c.in_default.is))))
    ∙ at_mark a.core a.location a.opcode a.row a.cl a.ll a.marks.now m c.mark_in-mark.ensures

pub returns : goal.returns
returns c =
    let a = c.args in
    let m = c.mark_in-mark.result in
    c.decide_to_live.ensures a.row _
    (to_enters a.core a.location a.opcode (T.Row a.row) m a.cl a.ll _ (Ok (Some _))
    (sym c.sound_with_marks.ensures ∙ c.if-not-sound_with_marks.false)
    (enters_as _ _ _ c.enter.ensures c.mark_sound.ensures (c.in_ok-entered.was ∙ ap Ok c.in-Some.is)))
    ∙ at_mark a.core a.location a.opcode a.row a.cl a.ll a.marks.now m c.mark_in-mark.ensures
