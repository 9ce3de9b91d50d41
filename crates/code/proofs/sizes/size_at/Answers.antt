-- `code::sizes::size_at` meets its contract: no opcode, one without a shape, or the size by its shape.
-- Assumes nothing.
use mathlib.Core.Path.{sym, ap, ◌∙◌}
use Rattle.code.specs.Decode.{size_in}
use Rattle.code.proofs.Decoding.{decode_past, at_unknown}
use Rattle.code.proofs.sizes.size_at.Goals as goal

pub returns-then-code-at : goal.returns-then-code-at
returns-then-code-at c = sym (ap size_in (decode_past _ c.args.at c.args.code.now c.if-code-at.true))

pub size_by-requires : goal.size_by-requires
size_by-requires c = (c.if-code-at.false, sym c.operand_shape-shaped.ensures ∙ c.in-Ok.is)

pub returns-in-Err : goal.returns-in-Err
returns-in-Err c =
    sym (ap size_in (at_unknown c.args.code.now c.args.at c.if-code-at.false
    (sym c.operand_shape-shaped.ensures ∙ c.in-Err.is)))
