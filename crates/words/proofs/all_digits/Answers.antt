use Rattle.std.proofs.Common.{rules, tests, ◌∙◌}
use Rattle.std.proofs.lemmas.Iterator.{YieldsList-from_slice}
use Rattle.std.proofs.lemmas.Iterator.Search.{all_from_yields_List}
use Rattle.text.specs.Number.{digit}
use Rattle.words.proofs.Reading.{all_is}
use Rattle.words.proofs.all_digits.Goals as goal

pub returns : goal.returns
returns c =
    let t = c.args.t.now in
    all_from_yields_List digit _ _ _ c.all.ensures.ran (YieldsList-from_slice t cc) (λ x b q k. search (rules, tests))
    ∙ all_is digit t
