-- `readback::fields::cut` meets its contract: the library's place, or the length.
-- Assumes nothing.
use Rattle.std.proofs.Common.{rules, tests, ◌∙◌, ap, ℕ, Option, nat_eq, length}
use Rattle.std.proofs.lemmas.Iterator.{YieldsList-from_slice}
use Rattle.std.proofs.lemmas.Iterator.Search.{position_from_yields_List}
use Rattle.std.specs.Option.{unwrap_or}
use Rattle.readback.proofs.Cutting.{place_is}
use Rattle.readback.proofs.fields.cut.Goals as goal

pub returns : goal.returns
returns c =
    let t = c.args.t.now in
    let b = c.args.b in
    c.unwrap_or.ensures
    ∙ ap (λ (o : Option ℕ). unwrap_or o (length t))
    (position_from_yields_List (λ (x : ℕ). nat_eq x b) _ _ _ c.position.ensures.ran (YieldsList-from_slice t cc)
    (λ x r q k. search (rules, tests)))
    ∙ place_is b t
