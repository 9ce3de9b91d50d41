-- `text::lister::end_line` meets its contract: the end's line is an instruction's with another name and no operand.
-- Assumes nothing.
use native.Mathlib.Omega.{arith}
use lib.ListN.{drop}
use Rattle.text.proofs.Progressing.{end_nothing, end_placed, lean_end}
use Rattle.text.proofs.lister.end_line.Goals as goal

pub returns-then-front-eq0 : goal.returns-then-front-eq0
returns-then-front-eq0 c =
    end_nothing c.args.code.now c.args.at c.args.front.now c.args.out.now
    c.args.to c.if-front-eq0.true

pub line-placed-requires : goal.line-placed-requires
line-placed-requires c = (
  lean_end c.args.at (drop c.args.at c.args.code.now)
      (c.requires.low (omega (arith, c.if-front-eq0.false))),
  c.requires.short,
)

pub overflow_add-at : goal.overflow_add-at
overflow_add-at c = omega (arith, c.requires.low (omega (arith, c.if-front-eq0.false)))

pub returns : goal.returns
returns c =
    rw c.went.ensures (end_placed c.args.code.now c.args.at c.args.front.now
    c.args.out.now c.args.to (omega (arith, c.if-front-eq0.false)) c.line-placed.ensures)
