-- `text::row::three` meets its contract: a number, a comma, and the other two.
-- Assumes nothing.
use mathlib.Core.List.{[], ◌∷◌}
use native.Mathlib.Omega.{arith}
use lib.IntN.{pos}
use Rattle.text.specs.Decimal.{decimal}
use Rattle.text.specs.Row.{operand_column}
use Rattle.text.proofs.Putting.{begin, next, last, part_fits, rest_fits}
use Rattle.text.proofs.row.three.Goals as goal

pub decimal-o-requires : goal.decimal-o-requires
decimal-o-requires c = part_fits (decimal c.args.a) _ (begin c.args.out.now c.args.to (operand_column (pos c.args.a ∷ pos c.args.b ∷ pos c.args.c ∷ []))) c.requires

pub byte-e-requires : goal.byte-e-requires
byte-e-requires c =
    omega (
      arith,
      rest_fits (next (begin c.args.out.now c.args.to (operand_column (pos c.args.a ∷ pos c.args.b ∷ pos c.args.c ∷ []))) c.decimal-o.ensures)
          c.requires,
    )

pub two-requires : goal.two-requires
two-requires c =
    rest_fits (next (next (begin c.args.out.now c.args.to (operand_column (pos c.args.a ∷ pos c.args.b ∷ pos c.args.c ∷ [])))
    c.decimal-o.ensures) c.byte-e.ensures) c.requires

pub returns : goal.returns
returns c =
    last (next (next (begin c.args.out.now c.args.to (operand_column (pos c.args.a ∷ pos c.args.b ∷ pos c.args.c ∷ []))) c.decimal-o.ensures)
    c.byte-e.ensures) c.two.ensures
