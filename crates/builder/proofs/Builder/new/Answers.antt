-- `builder::Builder::new` meets its contract: its test is the definition's, and the start stands at the front.
-- Assumes nothing.
use Rattle.code.proofs.Putting.{put_front}
use Rattle.builder.specs.State.{kept}
use Rattle.builder.specs.Regions.{new_of}
use borrow.Author.Tests.{le-ltb, lt-ltb}
use mathlib.Core.Path.{ap, refl}
use Rattle.builder.proofs.Builder.new.Goals as goal

pub returns-in_default : goal.returns-in_default
unfolding new_of
returns-in_default c = rw (c.in_default.is, c.fresh_at.ensures) refl

pub returns-then-starts-le0 : goal.returns-then-starts-le0
unfolding new_of
returns-then-starts-le0 c = rw (c.in-Some.is, le-ltb _ _ c.if-starts-le0.true) refl

pub returns : goal.returns
unfolding new_of
returns c =
    let a = c.args in
    rw (c.in-Some.is, lt-ltb _ _ c.if-starts-le0.false, c.fresh_at-2.ensures, c.put.ensures)
    (ap (kept _) (put_front _ a.starts.now))
