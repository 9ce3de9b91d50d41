-- `builder::names::named_cell` meets its contract: its test is the definition's.
-- Assumes nothing.
use borrow.Author.Tests.{eq-eqb, ne_eqb}
use Rattle.builder.proofs.names.named_cell.Goals as goal

pub returns-then-cell-eq0 : goal.returns-then-cell-eq0
returns-then-cell-eq0 c = simp (eq-eqb _ _ c.if-cell-eq0.true) c.name_cell.ensures

pub returns : goal.returns
returns c = simp (ne_eqb _ _ c.if-cell-eq0.false)
