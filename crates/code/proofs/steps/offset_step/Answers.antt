-- `code::steps::offset_step` meets its contract: the laws of `step_in`, one for each return; the size and the operand
-- compute.
-- Assumes nothing.
use mathlib.Core.Path.{refl, ◌∙◌, ap}
use mir.Syntax.{w16}
use mir.Facts.{to_z-of_z}
use Rattle.op.specs.Shapes.{size_of}
use Rattle.op.specs.declared.Operand.TheVariants as O
use Rattle.code.specs.Bytes.{signed}
use Rattle.code.specs.Decode.{operand_in}
use Rattle.code.proofs.Decoding.{step_cut, step_instr}
use Rattle.code.proofs.steps.offset_step.Goals as goal

pub returns-then-bytes-lt3 : goal.returns-then-bytes-lt3
unfolding size_of
returns-then-bytes-lt3 c =
    step_cut c.args.at _ c.args.bytes.now 3 refl
    c.if-bytes-lt3.true

pub returns : goal.returns
unfolding size_of operand_in
returns c =
    step_instr c.args.at _ c.args.bytes.now 3 refl _
    (ap O.Offset (to_z-of_z {w = w16} (record { sfits = c.to_i16.type_inv }) ∙ c.to_i16.ensures
    ∙ ap (signed 65536) c.word_at.ensures)) c.if-bytes-lt3.false
