-- `checker::explain` meets its contract: the tests are the promise's first refusals in their order, and the work on
-- the first cells is `explained_work`.
-- Assumes nothing.
use mathlib.Core.Logic.{inl, inr}
use Rattle.checker.proofs.Promising.{explained_long, explained_room, explained_work}
use Rattle.checker.proofs.explain.Goals as goal
use Rattle.checker.proofs.explain.Goals.{then-depths-code-via-then-depths-code}
use Rattle.checker.proofs.explain.Goals.{then-depths-code-via-else-depths-code+then-work-code}

pub returns-then-code-gt-CODE_LIMIT : goal.returns-then-code-gt-CODE_LIMIT
returns-then-code-gt-CODE_LIMIT c =
    explained_long _ c.args.code.now c.args.starts.now c.args.depths.now c.args.work.now
    c.if-code-gt-CODE_LIMIT.true

pub returns-then-depths-code : goal.returns-then-depths-code
returns-then-depths-code c =
    explained_room _ c.args.code.now c.args.starts.now c.args.depths.now c.args.work.now
    c.if-code-gt-CODE_LIMIT.false (elim c.then-depths-code.branch [
      | then-depths-code-via-then-depths-code w ↦ inl w.if-depths-code.true
      | then-depths-code-via-else-depths-code+then-work-code w ↦ inr w.if-work-code.true
    ])

pub returns : goal.returns
returns c =
    explained_work _ c.args.code.now c.args.starts.now c.args.depths.now c.args.work.now
    c.if-code-gt-CODE_LIMIT.false c.if-depths-code.false c.if-work-code.false
    c.within.new.cells c.within.new.work c.within.result
    c.within.ensures.0 c.within.ensures.1
