-- `text::listing::list` meets its contract: its first line, and the lines from a cursor on.
-- Assumes nothing.
use Rattle.std.specs.Prelude.{◌≡◌, Err}
use Rattle.std.proofs.lemmas.Grind.{common_steps}
use Rattle.op.specs.declared.Refusal.TheVariants.{Full}
use Rattle.op.specs.declared.Table.TheVariants.{Text}
use mathlib.Core.Path.{sym}
use native.Mathlib.Omega.{arith}
use lib.Seq.{length-take-le}
use Rattle.text.proofs.Listings.{plain_full, plain_first, plain_on, listed_is}
use Rattle.text.proofs.Progressing.{placed_within}
use Rattle.text.proofs.Putting.{refused}
use Rattle.text.proofs.listing.list.Goals as goal

pub returns-in_err-to : goal.returns-in_err-to
returns-in_err-to c =
    let p = rw (c.in_err-to.was) at c.first.ensures in
    let e : c.from_residual.result ≡ Err (Full Text) = grind (arith, common_steps, refused p) in
    rw e (plain_full c.args.code.now c.args.from c.if-from-eq0.true p)

pub slice_bounds-go_on-end : goal.slice_bounds-go_on-end
slice_bounds-go_on-end c =
    sym (length-take-le _ _ (listed_is c.args.code.now c.listed-size.result
    c.listed-size.ensures).1)

pub go_on-requires : goal.go_on-requires
go_on-requires c =
    let l = listed_is c.args.code.now c.listed-size.result c.listed-size.ensures in (
      record {
        small = omega (arith, l.2);
        cells = omega arith;
        fits = placed_within
            (rw (c.in_ok-to.was) at c.first.ensures);
      },
      omega arith,
    )

pub returns-then-from-eq0 : goal.returns-then-from-eq0
returns-then-from-eq0 c =
    plain_first c.args.code.now c.args.from c.listed-size.result c.listed-size.ensures c.if-from-eq0.true
    (rw (c.in_ok-to.was) at c.first.ensures) c.go_on.ensures

pub slice_bounds-go_on-end-2 : goal.slice_bounds-go_on-end-2
slice_bounds-go_on-end-2 c =
    sym (length-take-le _ _ (listed_is c.args.code.now c.listed-size.result
    c.listed-size.ensures).1)

pub go_on-requires-2 : goal.go_on-requires-2
go_on-requires-2 c =
    let l = listed_is c.args.code.now c.listed-size.result c.listed-size.ensures in (
      record { small = omega (arith, l.2); cells = omega arith; fits = omega arith },
      omega (arith, c.if-from-eq0.false, c.ranges.from.fits),
    )

pub returns : goal.returns
returns c =
    plain_on c.args.code.now c.args.from c.listed-size.result c.listed-size.ensures
    (omega (arith, c.if-from-eq0.false)) c.go_on-2.ensures
