-- `text::write::number` meets its contract: the sign where there is one, and the digits.
-- Assumes nothing.
use mathlib.Core.Path.{◌≡◌, ap}
use mathlib.Core.Bool.{Bool}
use mathlib.Core.List.{◌∷◌}
use native.Mathlib.Omega.{arith}
use lib.ListN.{length}
use Rattle.text.specs.Decimal.{decimal, sign_text}
use Rattle.text.proofs.Putting.{then}
use Rattle.text.proofs.write.number.Goals as goal

pub byte-o-requires : goal.byte-o-requires
byte-o-requires c =
    let minus : sign_text c.args.below c.args.n ≡ 45 ∷ decimal c.args.n = ap (λ (b : Bool). sign_text b c.args.n) c.if-below.true in
    omega (arith, ap length minus)

pub decimal-requires : goal.decimal-requires
decimal-requires c =
    let minus : sign_text c.args.below c.args.n ≡ 45 ∷ decimal c.args.n = ap (λ (b : Bool). sign_text b c.args.n) c.if-below.true in
    omega (arith, ap length minus)

pub returns-then-below : goal.returns-then-below
returns-then-below c =
    let minus : sign_text c.args.below c.args.n ≡ 45 ∷ decimal c.args.n = ap (λ (b : Bool). sign_text b c.args.n) c.if-below.true in
    rw minus (then c.byte-o.ensures c.decimal.ensures)

pub decimal-requires-2 : goal.decimal-requires-2
decimal-requires-2 c =
    let bare : sign_text c.args.below c.args.n ≡ decimal c.args.n = ap (λ (b : Bool). sign_text b c.args.n) c.if-below.false in
    omega (arith, ap length bare)

pub returns : goal.returns
returns c =
    let bare : sign_text c.args.below c.args.n ≡ decimal c.args.n = ap (λ (b : Bool). sign_text b c.args.n) c.if-below.false in
    rw bare c.decimal-2.ensures
