-- `code::flows::flow_at` meets its contract: the laws of `flow_of` at the end and at an opcode without a shape, and what
-- `shaped_flow` ensures.
-- Assumes nothing.
use mathlib.Core.Path.{sym, ◌∙◌}
use Rattle.code.proofs.Decoding.{decode_past, at_unknown}
use Rattle.code.proofs.Moving.{flow_end, flow_refused}
use Rattle.code.proofs.flows.flow_at.Goals as goal

pub returns-then-code-at : goal.returns-then-code-at
returns-then-code-at c =
    flow_end _ c.args.at c.args.code.now
    (decode_past _ c.args.at c.args.code.now c.if-code-at.true)

pub shaped_flow-requires : goal.shaped_flow-requires
shaped_flow-requires c = (c.if-code-at.false, sym c.operand_shape-shaped.ensures ∙ c.in-Ok.is)

pub returns-in-Err : goal.returns-in-Err
returns-in-Err c =
    flow_refused _ c.args.at c.args.code.now _
    (at_unknown c.args.code.now c.args.at c.if-code-at.false
    (sym c.operand_shape-shaped.ensures ∙ c.in-Err.is))
