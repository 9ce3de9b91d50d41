-- `text::row::back` meets its contract: the tab, the operands, the rest.
-- Assumes nothing.
use native.Mathlib.Omega.{arith}
use lib.ListN.{drop}
use Rattle.text.specs.Fields.{operands_at, back_text}
use Rattle.text.proofs.Putting.{begin, next, last, part_fits, rest_fits}
use Rattle.text.proofs.row.back.Goals as goal

pub byte-o-requires : goal.byte-o-requires
byte-o-requires c = omega (arith, rest_fits (begin c.args.out.now c.args.to (back_text c.args.at c.args.operand (drop c.args.at c.args.code.now))) c.requires.1)

pub operands-e-requires : goal.operands-e-requires
operands-e-requires c =
    part_fits (operands_at c.args.operand (drop c.args.at c.args.code.now)) _
    (next (begin c.args.out.now c.args.to (back_text c.args.at c.args.operand (drop c.args.at c.args.code.now))) c.byte-o.ensures) c.requires.1

pub tail-requires : goal.tail-requires
tail-requires c = (
  c.requires.0,
  rest_fits (next (next (begin c.args.out.now c.args.to (back_text c.args.at c.args.operand (drop c.args.at c.args.code.now))) c.byte-o.ensures)
      c.operands-e.ensures) c.requires.1,
)

pub returns : goal.returns
returns c =
    last (next (next (begin c.args.out.now c.args.to (back_text c.args.at c.args.operand (drop c.args.at c.args.code.now))) c.byte-o.ensures)
    c.operands-e.ensures) c.tail.ensures
