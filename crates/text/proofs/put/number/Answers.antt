-- `text::put::number` meets its contract: 21 cells have room for the digits, which are then put as bytes.
-- Assumes nothing.
use mathlib.Core.Path.{sym}
use Prim.Native.Nat.{◌≤◌}
use native.Mathlib.Omega.{arith}
use lib.ListN.{length}
use lib.Seq.{length-take-le}
use Rattle.text.specs.Decimal.{sign_text}
use Rattle.text.proofs.Decimals.{sign_fits}
use Rattle.text.proofs.Putting.{front_text_lem, same_places}
use Rattle.text.proofs.put.number.Goals as goal

pub number-end-requires : goal.number-end-requires
number-end-requires c =
    let short : length (sign_text c.args.below c.args.n) ≤ 21 = sign_fits c.args.below c.args.n c.ranges.n.fits in
    omega (arith, short)

pub slice_bounds-digits-end : goal.slice_bounds-digits-end
slice_bounds-digits-end c =
    let short : length (sign_text c.args.below c.args.n) ≤ 21 = sign_fits c.args.below c.args.n c.ranges.n.fits in
    omega (arith, c.number-end.ensures.next_is, short)

pub slice_bounds-bytes-end : goal.slice_bounds-bytes-end
slice_bounds-bytes-end c =
    let short : length (sign_text c.args.below c.args.n) ≤ 21 = sign_fits c.args.below c.args.n c.ranges.n.fits in
    sym (length-take-le _ _ (omega (arith, c.number-end.ensures.next_is, short)))

pub returns : goal.returns
returns c =
    let short : length (sign_text c.args.below c.args.n) ≤ 21 = sign_fits c.args.below c.args.n c.ranges.n.fits in
    same_places (front_text_lem c.number-end.ensures (omega (arith, short))) c.bytes.ensures
