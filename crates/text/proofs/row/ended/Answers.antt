-- `text::row::ended` meets its contract: the number, then the byte.
-- Assumes nothing.
use mathlib.Core.List.{[], ◌∷◌, ◌++◌}
use native.Mathlib.Omega.{arith}
use Rattle.text.specs.Decimal.{decimal}
use Rattle.text.proofs.Putting.{begin, next, last, part_fits, rest_fits}
use Rattle.text.proofs.row.ended.Goals as goal

pub decimal-o-requires : goal.decimal-o-requires
decimal-o-requires c = part_fits (decimal c.args.n) _ (begin c.args.out.now c.args.to (decimal c.args.n ++ (c.args.end ∷ []))) c.requires

pub byte-requires : goal.byte-requires
byte-requires c =
    omega (
      arith,
      rest_fits (next (begin c.args.out.now c.args.to (decimal c.args.n ++ (c.args.end ∷ []))) c.decimal-o.ensures)
          c.requires,
    )

pub returns : goal.returns
returns c =
    last (next (begin c.args.out.now c.args.to (decimal c.args.n ++ (c.args.end ∷ []))) c.decimal-o.ensures)
    c.byte.ensures
