-- `text::row::call` meets its contract: a number, a comma and the count, and the names.
-- Assumes nothing.
use mathlib.Core.List.{◌∷◌}
use Rattle.text.specs.Decimal.{decimal}
use Rattle.text.specs.Fields.{call_text}
use Rattle.text.proofs.Putting.{begin, next, last, part_fits, rest_fits}
use Rattle.text.proofs.row.call.Goals as goal

pub decimal-o-requires : goal.decimal-o-requires
decimal-o-requires c =
    part_fits (decimal c.args.positional) _ (begin c.args.out.now c.args.to (call_text c.args.positional c.args.count c.args.bytes.now))
    c.requires

pub more-e-requires : goal.more-e-requires
more-e-requires c =
    part_fits (44 ∷ decimal c.args.count) _
    (next (begin c.args.out.now c.args.to (call_text c.args.positional c.args.count c.args.bytes.now)) c.decimal-o.ensures)
    c.requires

pub names-requires : goal.names-requires
names-requires c =
    rest_fits (next (next (begin c.args.out.now c.args.to (call_text c.args.positional c.args.count c.args.bytes.now))
    c.decimal-o.ensures) c.more-e.ensures) c.requires

pub returns : goal.returns
returns c =
    last (next (next (begin c.args.out.now c.args.to (call_text c.args.positional c.args.count c.args.bytes.now)) c.decimal-o.ensures)
    c.more-e.ensures) c.names.ensures
