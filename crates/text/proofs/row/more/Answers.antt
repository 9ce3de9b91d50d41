-- `text::row::more` meets its contract: the comma, then the number.
-- Assumes nothing.
use mathlib.Core.List.{◌∷◌}
use native.Mathlib.Omega.{arith}
use Rattle.text.specs.Decimal.{decimal}
use Rattle.text.proofs.Putting.{begin, next, last, rest_fits}
use Rattle.text.proofs.row.more.Goals as goal

pub byte-o-requires : goal.byte-o-requires
byte-o-requires c = omega (arith, rest_fits (begin c.args.out.now c.args.to (44 ∷ decimal c.args.n)) c.requires)

pub decimal-requires : goal.decimal-requires
decimal-requires c =
    rest_fits (next (begin c.args.out.now c.args.to (44 ∷ decimal c.args.n)) c.byte-o.ensures)
    c.requires

pub returns : goal.returns
returns c =
    last (next (begin c.args.out.now c.args.to (44 ∷ decimal c.args.n)) c.byte-o.ensures)
    c.decimal.ensures
