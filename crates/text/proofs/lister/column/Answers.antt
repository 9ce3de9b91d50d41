-- `text::lister::column` meets its contract: its test is the definition's.
-- Assumes nothing.
use mathlib.Core.Path.{refl}
use native.Mathlib.Omega.{arith}
use Rattle.text.proofs.Progressing.{column_cell, column_past}
use Rattle.text.proofs.Putting.{same_text}
use Rattle.text.proofs.lister.column.Goals as goal

pub returns-then-at-depths : goal.returns-then-at-depths
returns-then-at-depths c = (
  same_text (column_cell c.args.depths.now c.args.at c.if-at-depths.true)
      c.put_depth.ensures.0,
  c.put_depth.ensures.1,
)

pub returns : goal.returns
returns c = (
  same_text (column_past c.args.depths.now c.args.at c.if-at-depths.false)
      (record { next_is = refl; out_is = refl }),
  omega arith,
)
