-- `code::flows::goal_by` meets its contract: the laws of `goal_by`, one for each return, by the word that stands for
-- the displacement.
-- Assumes nothing.
use mathlib.Core.Path.{refl, sym}
use mir.Syntax.{w16}
use Rattle.code.specs.Bytes.{signed}
use Rattle.code.proofs.Twos.{signed_small, unsigned_signed}
use Rattle.code.proofs.Moving.{goal_forth, goal_over, goal_back, goal_under}
use Rattle.code.proofs.flows.goal_by.Goals as goal

pub returns-then-word-end : goal.returns-then-word-end
returns-then-word-end c =
    let a = c.args in
    goal_forth a.next a.end (signed 65536 a.word) (signed_small w16 65536 refl refl a.word c.requires.1) a.word
    (sym (unsigned_signed w16 65536 refl refl a.word c.requires.1)) c.requires.0 c.if-word-lt32768.true c.if-word-end.true

pub returns-then-word-lt32768 : goal.returns-then-word-lt32768
returns-then-word-lt32768 c =
    let a = c.args in
    goal_over a.next a.end (signed 65536 a.word) (signed_small w16 65536 refl refl a.word c.requires.1) a.word
    (sym (unsigned_signed w16 65536 refl refl a.word c.requires.1)) c.requires.0 c.if-word-lt32768.true c.if-word-end.false

pub returns-then-back-next : goal.returns-then-back-next
returns-then-back-next c =
    let a = c.args in
    goal_back a.next a.end (signed 65536 a.word) (signed_small w16 65536 refl refl a.word c.requires.1) a.word
    (sym (unsigned_signed w16 65536 refl refl a.word c.requires.1)) c.requires.0 c.if-word-lt32768.false c.if-back-next.true

pub returns : goal.returns
returns c =
    let a = c.args in
    goal_under a.next a.end (signed 65536 a.word) (signed_small w16 65536 refl refl a.word c.requires.1) a.word
    (sym (unsigned_signed w16 65536 refl refl a.word c.requires.1)) c.requires.0 c.if-word-lt32768.false c.if-back-next.false
