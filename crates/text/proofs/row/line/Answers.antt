-- `text::row::line` meets its contract: the offset, the name, the rest.
-- Assumes nothing.
use lib.ListN.{drop}
use Rattle.text.specs.Fields.{front_text, line_text}
use Rattle.text.proofs.Putting.{begin, next, last, part_fits, rest_fits}
use Rattle.text.proofs.row.line.Goals as goal

pub ended-o-requires : goal.ended-o-requires
ended-o-requires c =
    part_fits (front_text c.args.at) _ (begin c.args.out.now c.args.to (line_text c.args.at c.args.name.now c.args.operand (drop c.args.at c.args.code.now)))
    c.requires.1

pub copy-e-requires : goal.copy-e-requires
copy-e-requires c =
    part_fits c.args.name.now _
    (next (begin c.args.out.now c.args.to (line_text c.args.at c.args.name.now c.args.operand (drop c.args.at c.args.code.now))) c.ended-o.ensures) c.requires.1

pub back-requires : goal.back-requires
back-requires c = (
  c.requires.0,
  rest_fits (next (next (begin c.args.out.now c.args.to (line_text c.args.at c.args.name.now c.args.operand (drop c.args.at c.args.code.now)))
      c.ended-o.ensures)
      c.copy-e.ensures) c.requires.1,
)

pub returns : goal.returns
returns c =
    last (next (next (begin c.args.out.now c.args.to (line_text c.args.at c.args.name.now c.args.operand (drop c.args.at c.args.code.now))) c.ended-o.ensures)
    c.copy-e.ensures) c.back.ensures
