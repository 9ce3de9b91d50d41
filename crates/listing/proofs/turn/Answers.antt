-- `listing::turn` meets its contract: what the part says of the listing.
-- Assumes nothing.
use Rattle.std.proofs.Common.{◌≡◌, Ok, sym, ◌∙◌, arith}
use Rattle.std.proofs.lemmas.Grind.{common_steps}
use lib.Seq.{length-take-le}
use Rattle.text.proofs.Joining.{plain_fits}
use Rattle.listing.proofs.Turning.{turned}
use Rattle.listing.proofs.turn.Goals as goal

pub slice_bounds-write_all-end : goal.slice_bounds-write_all-end
slice_bounds-write_all-end g c =
    let part = c.in_ok-part.part in
    let made : c.list.result ≡ Ok part = grind (arith, common_steps) in
    omega (arith, plain_fits c.args.code.now c.args.out.now c.args.from part.length part.next (sym c.list.ensures.answers ∙ made))

pub slice_bounds-write_all-end-2 : goal.slice_bounds-write_all-end-2
slice_bounds-write_all-end-2 g c =
    let part = c.in_ok-part.part in
    let made : c.list.result ≡ Ok part = grind (arith, common_steps) in
    sym (length-take-le _ _ (omega
    (arith, plain_fits c.args.code.now c.args.out.now c.args.from part.length part.next (sym c.list.ensures.answers ∙ made))))

pub returns : goal.returns
returns g c =
    let part = c.in_ok-part.part in
    let made : c.list.result ≡ Ok part = grind (arith, common_steps) in
    turned c.args.code.now c.args.from c.args.out.now _ part (sym c.list.ensures.answers ∙ made) c.list.ensures.cells
