-- `code::decoder::first` meets its contract: the law of `decode` for an unknown opcode, else the step of the shape.
-- Assumes nothing.
use mathlib.Core.Path.{◌∙◌, sym}
use Rattle.code.proofs.Decoding.{shape_last, decode_unknown, decode_shaped}
use Rattle.code.proofs.decoder.first.Goals as goal

pub returns-in_default : goal.returns-in_default
returns-in_default c =
    decode_unknown _ c.args.at c.args.bytes.now c.requires _
    (shape_last _ ∙ sym c.operand_shape.ensures ∙ c.in_default.is)

pub returns : goal.returns
returns c =
    c.shaped_step.ensures ∙ decode_shaped _ c.args.at c.args.bytes.now c.requires _
    (shape_last _ ∙ sym c.operand_shape.ensures ∙ c.in-Ok.is)
