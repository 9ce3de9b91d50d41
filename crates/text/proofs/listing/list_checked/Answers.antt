-- `text::listing::list_checked` meets its contract: its tests, its header, and the lines from a cursor on.
-- Assumes nothing.
use Rattle.std.specs.Prelude.{Err}
use Rattle.std.proofs.lemmas.Grind.{common_steps}
use Rattle.op.specs.declared.Refusal.TheVariants.{Full}
use Rattle.op.specs.declared.Table.TheVariants.{Text}
use mathlib.Core.Path.{◌≡◌, refl, sym}
use mathlib.Core.List.{List}
use Prim.Native.Nat.{ℕ, suc, ◌+◌, ◌≤◌}
use native.Mathlib.Omega.{arith}
use lib.ListN.{length, take, length-take}
use lib.Seq.{length-take-le}
use Rattle.op.specs.Names.{ascii}
use Rattle.text.specs.Lines.{checked_header}
use Rattle.text.proofs.Listings.{checked_large, checked_short, checked_full, checked_first, checked_on}
use Rattle.text.proofs.Progressing.{placed_within}
use Rattle.text.proofs.Putting.{refused, same_places}
use Rattle.text.proofs.listing.list_checked.Goals as goal

header_is : ascii "depth\toffset\tname\toperands\ttarget\n" ≡ checked_header
unfolding checked_header
header_is = refl

one_more : (code : List ℕ) → length code + 1 ≡ suc (length code)
one_more code = omega arith

-- no more cells than bytes and one
cut : (code depths : List ℕ) → length (take (length code + 1) depths) ≤ suc (length code)
cut code depths = simp length-take (omega arith)

pub returns-then-code-gt-CODE_LIMIT : goal.returns-then-code-gt-CODE_LIMIT
returns-then-code-gt-CODE_LIMIT c = checked_large c.args.code.now c.args.depths.now c.args.from c.if-code-gt-CODE_LIMIT.true

pub returns-then-depths-code : goal.returns-then-depths-code
returns-then-depths-code c = checked_short c.args.code.now c.args.depths.now c.args.from c.if-code-gt-CODE_LIMIT.false c.if-depths-code.true

pub returns-in_err-to : goal.returns-in_err-to
returns-in_err-to c =
    let p = rw (c.in_err-to.was) at (same_places header_is c.bytes.ensures) in
    let e : c.from_residual.result ≡ Err (Full Text) = grind (arith, common_steps, refused p) in
    rw e (
    checked_full c.args.code.now c.args.depths.now c.args.from (omega (arith, c.if-code-gt-CODE_LIMIT.false)) (omega (arith, c.if-depths-code.false))
    c.if-from-eq0.true p)

pub slice_bounds-go_on-end : goal.slice_bounds-go_on-end
slice_bounds-go_on-end c = sym (length-take-le _ _ (omega (arith, c.if-depths-code.false)))

pub go_on-requires : goal.go_on-requires
go_on-requires c = (
  record {
    small = c.if-code-gt-CODE_LIMIT.false;
    cells = cut c.args.code.now c.args.depths.now;
    fits = placed_within (rw (c.in_ok-to.was) at c.bytes.ensures);
  },
  omega arith,
)

pub returns-then-from-eq0 : goal.returns-then-from-eq0
returns-then-from-eq0 c =
    checked_first c.args.code.now c.args.depths.now c.args.from (omega (arith, c.if-code-gt-CODE_LIMIT.false)) (omega (arith, c.if-depths-code.false))
    c.if-from-eq0.true (rw (c.in_ok-to.was) at (same_places header_is c.bytes.ensures))
    (rw (one_more c.args.code.now) at c.go_on.ensures)

pub slice_bounds-go_on-end-2 : goal.slice_bounds-go_on-end-2
slice_bounds-go_on-end-2 c = sym (length-take-le _ _ (omega (arith, c.if-depths-code.false)))

pub go_on-requires-2 : goal.go_on-requires-2
go_on-requires-2 c = (
  record {
    small = c.if-code-gt-CODE_LIMIT.false;
    cells = cut c.args.code.now c.args.depths.now;
    fits = omega
        arith;
  },
  omega (arith, c.if-from-eq0.false, c.ranges.from.fits),
)

pub returns : goal.returns
returns c =
    checked_on c.args.code.now c.args.depths.now c.args.from (omega (arith, c.if-code-gt-CODE_LIMIT.false)) (omega (arith, c.if-depths-code.false))
    (omega (arith, c.if-from-eq0.false)) (rw (one_more c.args.code.now) at c.go_on-2.ensures)
