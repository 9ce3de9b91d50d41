-- `text::lister::put_depth` meets its contract: its test is the definition's, and 32 bits have ten digits at most.
-- Assumes nothing.
use mathlib.Core.Path.{◌≡◌}
use mathlib.Core.List.{[], ◌∷◌, ◌++◌}
use Prim.Native.Nat.{ℕ}
use native.Mathlib.Omega.{arith}
use lib.ListN.{length-append}
use borrow.Author.Tests.{ne_eqb}
use Rattle.code.specs.Tables.{no_depth}
use Rattle.text.specs.Decimal.{decimal}
use Rattle.text.specs.Lines.{depth_text}
use Rattle.text.proofs.Decimals.{decimal_short}
use Rattle.text.proofs.Putting.{then, same_text}
use Rattle.text.proofs.lister.put_depth.Goals as goal

other : (d : ℕ) → (d ≡ no_depth → ⊥) → decimal d ++ (9 ∷ []) ≡ depth_text d ++ (9 ∷ [])
other d n = rw (ne_eqb d no_depth n)

pub returns-then-depth-eq-NO_DEPTH : goal.returns-then-depth-eq-NO_DEPTH
returns-then-depth-eq-NO_DEPTH c = (
  same_text (rw c.if-depth-eq-NO_DEPTH.true) (then c.byte-o.ensures c.byte.ensures),
  omega (arith, c.byte-o.ensures.next_is, c.byte.ensures.next_is),
)

pub ended-requires : goal.ended-requires
ended-requires c =
    omega (
      arith,
      length-append (decimal c.args.depth) (9 ∷ []),
      decimal_short 10 c.args.depth (omega (arith, c.ranges.depth.fits)) (omega arith),
      c.requires,
    )

pub returns : goal.returns
returns c = (
  same_text (other c.args.depth c.if-depth-eq-NO_DEPTH.false) c.ended.ensures,
  omega (
    arith,
    c.ended.ensures.next_is,
    length-append (decimal c.args.depth) (9 ∷ []),
    decimal_short 10 c.args.depth (omega (arith, c.ranges.depth.fits)) (omega arith),
  ),
)
