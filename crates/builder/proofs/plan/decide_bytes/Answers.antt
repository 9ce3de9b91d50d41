-- `builder::plan::decide_bytes` meets its contract: its tests are the definition's, and the depths are op's.
-- Assumes nothing.
use Rattle.std.proofs.lemmas.Result.{err_from_is_err_and}
use Rattle.builder.specs.Inner.{bytes_of}
use borrow.Author.Tests.{eq-eqb, le-leb, lt-leb, ne_eqb}
use mathlib.Core.Path.{◌∙◌, sym}
use Rattle.builder.proofs.plan.decide_bytes.Goals as goal

pub returns-then-n-gt255 : goal.returns-then-n-gt255
unfolding bytes_of
returns-then-n-gt255 c = simp (lt-leb _ _ c.if-n-gt255.true)

pub returns-then-names_of-n : goal.returns-then-names_of-n
unfolding bytes_of
returns-then-names_of-n c = simp (le-leb _ _ c.if-n-gt255.false, ← c.names_of.ensures.0, ne_eqb _ _ c.if-names_of-n.true)

pub returns : goal.returns
unfolding bytes_of
returns c =
    simp (
      le-leb _ _ c.if-n-gt255.false,
      ← c.names_of.ensures.0,
      eq-eqb _ _ c.if-names_of-n.false,
      sym c.after.ensures ∙ c.in_ok-next.was,
    )
    (rw (
      c.instruction_size-size.ensures,
      c.from.ensures,
      c.behind_op.ensures,
    ) at c.room.ensures)

pub returns-in_err-next : goal.returns-in_err-next
unfolding bytes_of
returns-in_err-next c =
    let p = err_from_is_err_and c.from_residual.result c.from_residual.ensures.1 in rw (p.1, p.2) (simp (
      le-leb _ _ c.if-n-gt255.false,
      ← c.names_of.ensures.0,
      eq-eqb _ _ c.if-names_of-n.false,
      sym c.after.ensures ∙ c.in_err-next.was,
    ))
