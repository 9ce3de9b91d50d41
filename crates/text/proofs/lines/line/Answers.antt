-- `text::lines::line` meets its contract: where there is room for any line, it is written in place.
-- Assumes nothing.
use mathlib.Core.List.{◌++◌}
use native.Mathlib.Omega.{arith}
use lib.ListN.{drop}
use Rattle.text.specs.Fields.{line_text}
use Rattle.text.proofs.Bounds.{line_short}
use Rattle.text.proofs.Putting.{begin, next, last, part_fits, rest_fits, places}
use Rattle.text.proofs.lines.line.Goals as goal

pub copy-o-requires : goal.copy-o-requires
copy-o-requires c =
    part_fits c.args.front.now _
    (begin c.args.out.now c.args.to
    (c.args.front.now ++ line_text c.args.at c.args.name.now c.args.operand
    (drop c.args.at c.args.code.now)))
    (omega (
      arith,
      line_short c.args.at c.args.operand (drop c.args.at c.args.code.now)
          c.args.front.now c.args.name.now c.requires.0 c.requires.1,
      c.room-room.ensures,
      c.if-room-name.false,
      c.if-room-name-lt-LONGEST.false,
    ))

pub line-requires : goal.line-requires
line-requires c = (
  c.requires.0.low,
  rest_fits (next (begin c.args.out.now c.args.to
      (c.args.front.now ++ line_text c.args.at c.args.name.now c.args.operand
      (drop c.args.at c.args.code.now))) c.copy-o.ensures)
      (omega (
        arith,
        line_short c.args.at c.args.operand (drop c.args.at c.args.code.now)
            c.args.front.now c.args.name.now c.requires.0 c.requires.1,
        c.room-room.ensures,
        c.if-room-name.false,
        c.if-room-name-lt-LONGEST.false,
      )),
)

pub returns : goal.returns
returns c =
    places (omega (
      arith,
      line_short c.args.at c.args.operand (drop c.args.at c.args.code.now)
          c.args.front.now c.args.name.now c.requires.0 c.requires.1,
      c.room-room.ensures,
      c.if-room-name.false,
      c.if-room-name-lt-LONGEST.false,
    ))
    (last (next (begin c.args.out.now c.args.to
    (c.args.front.now ++ line_text c.args.at c.args.name.now c.args.operand
    (drop c.args.at c.args.code.now))) c.copy-o.ensures) c.line.ensures)
