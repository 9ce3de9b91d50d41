-- `op::shapes::operand_shape` meets its contract: the shape of the opcode's number is its shape.
-- Assumes nothing.
use mathlib.Core.Path.{sym, ◌∙◌}
use Rattle.op.proofs.Shaping.{shape_arm, shape_at_lem, shape_none}
use Rattle.op.proofs.shapes.operand_shape.Goals as goal

pub returns-in_default : goal.returns-in_default
returns-in_default c = shape_none c.args.opcode c.shape_number.result c.shape_number.ensures c.in_default.ensures.1

pub returns : goal.returns
returns c = sym (shape_at_lem c.in-Ok.shape) ∙ shape_arm c.args.opcode _ _ c.shape_number.ensures (sym c.in-Ok.ensures)
