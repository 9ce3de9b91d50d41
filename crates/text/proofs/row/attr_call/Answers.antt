-- `text::row::attr_call` meets its contract: a number, a comma, and what any keyword call has.
-- Assumes nothing.
use mathlib.Core.List.{◌∷◌, ◌++◌}
use native.Mathlib.Omega.{arith}
use Rattle.text.specs.Decimal.{decimal}
use Rattle.text.specs.Fields.{call_text}
use Rattle.text.proofs.Putting.{begin, next, last, part_fits, rest_fits}
use Rattle.text.proofs.row.attr_call.Goals as goal

pub decimal-o-requires : goal.decimal-o-requires
decimal-o-requires c =
    part_fits (decimal c.args.attribute) _ (begin c.args.out.now c.args.to (decimal c.args.attribute ++ (44 ∷ call_text c.args.positional c.args.count c.args.bytes.now)))
    c.requires

pub byte-e-requires : goal.byte-e-requires
byte-e-requires c =
    omega (
      arith,
      rest_fits (next (begin c.args.out.now c.args.to (decimal c.args.attribute ++ (44 ∷ call_text c.args.positional c.args.count c.args.bytes.now))) c.decimal-o.ensures)
          c.requires,
    )

pub call-requires : goal.call-requires
call-requires c =
    rest_fits (next (next (begin c.args.out.now c.args.to (decimal c.args.attribute ++ (44 ∷ call_text c.args.positional c.args.count c.args.bytes.now)))
    c.decimal-o.ensures) c.byte-e.ensures) c.requires

pub returns : goal.returns
returns c =
    last (next (next (begin c.args.out.now c.args.to (decimal c.args.attribute ++ (44 ∷ call_text c.args.positional c.args.count c.args.bytes.now))) c.decimal-o.ensures)
    c.byte-e.ensures) c.call.ensures
