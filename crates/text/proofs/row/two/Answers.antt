-- `text::row::two` meets its contract: a number, then a comma and the other.
-- Assumes nothing.
use mathlib.Core.List.{[], ◌∷◌}
use lib.IntN.{pos}
use Rattle.text.specs.Decimal.{decimal}
use Rattle.text.specs.Row.{operand_column}
use Rattle.text.proofs.Putting.{begin, next, last, part_fits, rest_fits}
use Rattle.text.proofs.row.two.Goals as goal

pub decimal-o-requires : goal.decimal-o-requires
decimal-o-requires c = part_fits (decimal c.args.a) _ (begin c.args.out.now c.args.to (operand_column (pos c.args.a ∷ pos c.args.b ∷ []))) c.requires

pub more-requires : goal.more-requires
more-requires c =
    rest_fits (next (begin c.args.out.now c.args.to (operand_column (pos c.args.a ∷ pos c.args.b ∷ []))) c.decimal-o.ensures)
    c.requires

pub returns : goal.returns
returns c =
    last (next (begin c.args.out.now c.args.to (operand_column (pos c.args.a ∷ pos c.args.b ∷ []))) c.decimal-o.ensures)
    c.more.ensures
