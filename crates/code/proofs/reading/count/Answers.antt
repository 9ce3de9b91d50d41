-- `code::reading::count` meets its contract: the loop keeps `Counting`, and a step that is no instruction ends it.
-- Assumes nothing.
use Rattle.std.specs.Prelude.{Ok}
use mathlib.Core.Path.{◌∙◌, sym, ap}
use native.Mathlib.Omega.{arith}
use Rattle.code.proofs.Decoding.{decoded_ends}
use Rattle.code.proofs.Counted.{counting_none, counting_on, counting_end, counting_fault}
use Rattle.code.proofs.reading.count.Goals as goal

pub loop-found-init : goal.loop-found-init
loop-found-init c = counting_none _ c.args.code.now

pub overflow_add-at : goal.overflow_add-at
overflow_add-at c =
    let l = c.loop-found in
    let ends = decoded_ends _ l.at c.args.code.now _ _ _ (sym c.step_at-step.ensures ∙ c.in-Ok.is ∙ ap Ok c.in-Some.is) in
    omega (arith, l.invariant.inside, ends)

pub overflow_add-n : goal.overflow_add-n
overflow_add-n c =
    let l = c.loop-found in
    let ends = decoded_ends _ l.at c.args.code.now _ _ _ (sym c.step_at-step.ensures ∙ c.in-Ok.is ∙ ap Ok c.in-Some.is) in
    omega (arith, l.invariant.few, l.invariant.inside, ends)

pub loop-found-smaller : goal.loop-found-smaller
loop-found-smaller c =
    omega (arith, decoded_ends _ c.loop-found.at c.args.code.now _ _ _ (sym c.step_at-step.ensures ∙ c.in-Ok.is ∙ ap Ok c.in-Some.is))

pub loop-found-preserved : goal.loop-found-preserved
loop-found-preserved c =
    let l = c.loop-found in
    counting_on _ c.args.code.now l.at l.n _ _ _ l.invariant (sym c.step_at-step.ensures ∙ c.in-Ok.is ∙ ap Ok c.in-Some.is)

pub returns-in_default : goal.returns-in_default
returns-in_default c =
    counting_end _ c.args.code.now c.loop-found.at c.loop-found.n c.loop-found.invariant
    (sym c.step_at-step.ensures ∙ c.in-Ok.is ∙ ap Ok c.in_default.is)

pub returns-in-Err : goal.returns-in-Err
returns-in-Err c =
    counting_fault _ c.args.code.now c.loop-found.at c.loop-found.n _ c.loop-found.invariant
    (sym c.step_at-step.ensures ∙ c.in-Err.is)
