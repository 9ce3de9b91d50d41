-- `code::flows::shaped_flow` meets its contract: cut short, or the flow of what decodes.
-- Assumes nothing.
use Rattle.std.specs.Prelude.{Ok, Some}
use mathlib.Core.Path.{ap, ◌∙◌}
use Rattle.code.specs.declared.Flow.{Flow}
use Rattle.code.proofs.Decoding.{at_cut, at_whole}
use Rattle.code.proofs.Moving.{flow_op, flow_refused}
use Rattle.code.proofs.flows.shaped_flow.Goals as goal

pub returns-then-code-at : goal.returns-then-code-at
returns-then-code-at c =
    let a = c.args in
    flow_refused _ a.at a.code.now _
    (at_cut a.code.now a.at c.requires.0 a.shape c.requires.1 _ c.size-size.ensures c.if-code-at.true)

pub returns : goal.returns
returns c =
    let a = c.args in
    ap (λ (f : Flow). Ok (Some f)) c.flow_by.ensures ∙ flow_op _ a.at a.code.now _ _ _
    (at_whole a.code.now a.at c.requires.0 a.shape c.requires.1 _ c.size-size.ensures
    c.if-code-at.false)
