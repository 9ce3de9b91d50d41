-- `text::lister::fill` meets its contract: each turn puts the line at the reader's place and goes behind it.
-- Assumes nothing.
use mathlib.Core.Path.{sym, ◌∙◌}
use Rattle.text.proofs.Progressing.{onward, on_is}
use Rattle.text.proofs.lister.fill.Goals as goal

pub loop-reader-preserved : goal.loop-reader-preserved
loop-reader-preserved c =
    let on = sym (on_is c.loop-reader.p.going) ∙ sym c.eq.ensures ∙ c.loop-reader-test.true in
    record {
      same = cc;
      there = λ m. let next = c.put_line-p.ensures.next m in cc;
      fills =
          onward c.loop-reader.invariant.fills on
          (rw (← c.loop-reader.invariant.same, ← c.loop-reader.invariant.there on) c.put_line-p.ensures.fills);
    }
