-- The reader stands at the place of the next line, and what was put so far is the lines before it (`Progressing`). The
-- measure is the turns left.
use mathlib.Core.Path.{◌≡◌}
use mathlib.Core.Bool.{true}
use Rattle.text.specs.Inner.{turns, goes_on, Fills}
use Rattle.text.proofs.lister.fill.Given as goal

abbrev pub invariant-loop-reader : goal.invariant-loop-reader
invariant-loop-reader l = record {
  same : l.reader.code.now ≡ l.code;
  there : goes_on l.p.going ≡ true → l.reader.at ≡ l.p.at;
  fills : Fills l.depths l.code l.at l.fn.out l.to l.p l.out;
}

abbrev pub decreases-loop-reader : goal.decreases-loop-reader
decreases-loop-reader l = turns l.code l.p
