-- `code::lookups::find_exception_handler` meets its contract: its test is that of the definition, on the row that the
-- scan found.
-- Assumes nothing.
use borrow.Author.Tests.{lt-ltb, le-ltb}
use Rattle.code.specs.Lookups.{handler_of}
use Rattle.code.proofs.lookups.find_exception_handler.Goals as goal

pub returns-then-row-rows : goal.returns-then-row-rows
unfolding handler_of
returns-then-row-rows c =
    simp (
      ← c.first_covering-row.ensures,
      c.handler_row.ensures,
      lt-ltb _ _ c.if-row-rows.true,
    )

pub returns : goal.returns
unfolding handler_of
returns c = simp (← c.first_covering-row.ensures, le-ltb _ _ c.if-row-rows.false)
