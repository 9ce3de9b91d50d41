-- `code::steps::u16_u16_u8_step` meets its contract: the laws of `step_in`, one for each return; the size and the operand compute.
-- Assumes nothing.
use mathlib.Core.Path.{refl}
use Rattle.op.specs.Shapes.{size_of}
use Rattle.code.specs.Decode.{operand_in}
use Rattle.code.proofs.Decoding.{step_cut, step_instr}
use Rattle.code.proofs.steps.u16_u16_u8_step.Goals as goal

pub returns-then-bytes-lt6 : goal.returns-then-bytes-lt6
unfolding size_of
returns-then-bytes-lt6 c =
    step_cut c.args.at _ c.args.bytes.now 6 refl
    c.if-bytes-lt6.true

pub returns : goal.returns
unfolding size_of operand_in
returns c =
    step_instr c.args.at _ c.args.bytes.now 6 refl _
    (rw (c.word_at.ensures, c.word_at-2.ensures)) c.if-bytes-lt6.false
