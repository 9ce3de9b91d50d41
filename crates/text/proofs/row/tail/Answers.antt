-- `text::row::tail` meets its contract: the tab, the target, the line's end.
-- Assumes nothing.
use native.Mathlib.Omega.{arith}
use Rattle.text.specs.Fields.{tail_text}
use Rattle.text.specs.Row.{target_column, target_of}
use Rattle.text.proofs.Putting.{begin, next, last, part_fits, rest_fits}
use Rattle.text.proofs.row.tail.Goals as goal

pub byte-o-requires : goal.byte-o-requires
byte-o-requires c = omega (arith, rest_fits (begin c.args.out.now c.args.to (tail_text c.args.at c.args.operand)) c.requires.1)

pub target-e-requires : goal.target-e-requires
target-e-requires c = (
  c.requires.0,
  part_fits (target_column (target_of c.args.at c.args.operand)) _
      (next (begin c.args.out.now c.args.to (tail_text c.args.at c.args.operand)) c.byte-o.ensures)
      c.requires.1,
)

pub byte-requires : goal.byte-requires
byte-requires c =
    omega (
      arith,
      rest_fits (next (next (begin c.args.out.now c.args.to (tail_text c.args.at c.args.operand)) c.byte-o.ensures)
          c.target-e.ensures) c.requires.1,
    )

pub returns : goal.returns
returns c =
    last (next (next (begin c.args.out.now c.args.to (tail_text c.args.at c.args.operand)) c.byte-o.ensures)
    c.target-e.ensures) c.byte.ensures
