-- `code::decoder::names_at` meets its contract: what is no instruction has no names, and what is one ends in the code, its names last.
-- Assumes nothing.
use Rattle.std.specs.Prelude.{Ok}
use mathlib.Core.Path.{◌∙◌, sym, ap}
use native.Mathlib.Omega.{arith}
use lib.ListN.{drop}
use Rattle.code.specs.Decode.{Step, names_by}
use Rattle.code.proofs.Decoding.{decoded, decoded_ends, names_anywhere, names_in_code}
use Rattle.code.proofs.decoder.names_at.Goals as goal

pub returns-in_default : goal.returns-in_default
returns-in_default c =
    let u = drop c.args.at c.args.code.now in
    ap (λ (s : Step). names_by s u) (sym c.in_default.is ∙ c.step_at.ensures) ∙ sym (names_anywhere _ c.args.at u)

pub returns-in_default-found : goal.returns-in_default-found
returns-in_default-found c =
    let u = drop c.args.at c.args.code.now in
    ap (λ (s : Step). names_by s u) (ap Ok (sym c.in_default-found.is) ∙ sym c.in-Ok.is ∙ c.step_at.ensures)
    ∙ sym (names_anywhere _ c.args.at u)

pub overflow_add-end : goal.overflow_add-end
overflow_add-end c =
    omega (arith, (decoded_ends _ c.args.at c.args.code.now _ _ _ (sym c.step_at.ensures ∙ c.in-Ok.is ∙ ap Ok c.in-Some.is)).1)

pub overflow_sub-start : goal.overflow_sub-start
overflow_sub-start c =
    let d = decoded _ c.args.at _ _ _ _ (sym c.step_at.ensures ∙ c.in-Ok.is ∙ ap Ok c.in-Some.is) in
    omega (arith, d.base, c.names_of.ensures.0)

pub slice_bounds-result-end-2 : goal.slice_bounds-result-end-2
slice_bounds-result-end-2 c =
    omega (arith, (decoded_ends _ c.args.at c.args.code.now _ _ _ (sym c.step_at.ensures ∙ c.in-Ok.is ∙ ap Ok c.in-Some.is)).1)

pub returns : goal.returns
returns c =
    names_in_code _ c.args.code.now c.args.at _ _ _ _ (sym c.step_at.ensures ∙ c.in-Ok.is ∙ ap Ok c.in-Some.is)
    c.names_of.ensures.0
