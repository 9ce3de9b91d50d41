-- `readback::placing::aim_of` meets its contract: a word from the middle on is a number below zero.
-- Assumes nothing.
use mathlib.Core.Path.{ap, ◌∙◌}
use Prim.Native.Nat.{◌<◌}
use native.Mathlib.Omega.{arith}
use lib.Signed.{mag}
use mir.ValLaws.{to_z-of_z}
use mir.Syntax.{w16}
use Rattle.op.specs.declared.Operand.TheVariants as O
use Rattle.code.specs.Bytes.{unsigned}
use Rattle.readback.proofs.Places.{no_jump, aim_on, aim_back}
use Rattle.readback.proofs.placing.aim_of.Goals as goal

pub returns-in_default : goal.returns-in_default
returns-in_default c = no_jump c.args.operand c.in_default.not-Offset

pub returns-then-w-lt32768 : goal.returns-then-w-lt32768
returns-then-w-lt32768 c =
    let fits : mag c.in-Offset.x < 32768 = omega arith in
    let kept = ap (unsigned 65536) (to_z-of_z w16 c.in-Offset.x (record { sfits = fits })) in
    c.in-Offset.is
    ∙ ap O.Offset (aim_on _ _ fits (c.word_of-w.ensures ∙ kept) c.if-w-lt32768.true)

pub returns : goal.returns
returns c =
    let fits : mag c.in-Offset.x < 32768 = omega arith in
    let kept = ap (unsigned 65536) (to_z-of_z w16 c.in-Offset.x (record { sfits = fits })) in
    c.in-Offset.is
    ∙ ap O.Offset (aim_back _ _ fits (c.word_of-w.ensures ∙ kept) c.if-w-lt32768.false)
