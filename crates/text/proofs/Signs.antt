-- A whole number by its sign and its magnitude, as the machine computes them.
-- Assumes nothing.
use mathlib.Core.Path.{◌≡◌, refl, ap, ◌∙◌, subst, sym}
use mathlib.Core.Bool.{Bool, true, false}
use Prim.Native.Nat.{ℕ}
use native.Mathlib.Omega.{arith}
use lib.IntN.{ℤ, pos, negsuc, nat_abs}
use lib.Signed.{lt_z}
use mir.Syntax.{w64}
use mir.Val.{SFits, to_z, of_z}
use mir.ValLaws.{to_z-of_z}
use borrow.Author.Tests.{ltb-true}
use mathlib.Core.List.{◌∷◌}
use Rattle.base.proofs.Bools.{clash}
use Rattle.text.specs.Decimal.{decimal, whole_text, sign_text}

whole_neg : (z : ℤ) → SFits w64 z → lt_z (to_z w64 (of_z w64 z)) (pos 0) ≡ true → whole_text z ≡ 45 ∷ decimal (nat_abs z)
whole_neg (pos n) f t = let e = to_z-of_z w64 (pos n) f in let z =
    ltb-true n 0 (subst (λ (x : ℤ). lt_z x (pos 0) ≡ true) e t) in let y : ⊥ = omega arith in absurd y
whole_neg (negsuc n) f t = refl

whole_pos : (z : ℤ) → SFits w64 z → lt_z (to_z w64 (of_z w64 z)) (pos 0) ≡ false → whole_text z ≡ decimal (nat_abs z)
whole_pos (negsuc n) f t = let e = to_z-of_z w64 (negsuc n) f in let y =
    subst (λ (x : ℤ). lt_z x (pos 0) ≡ false) e t in clash cc
whole_pos (pos n) f t = refl

-- the sign that the machine finds, and the magnitude, say the number
pub sign_whole : (z : ℤ) (m : ℕ) → SFits w64 z → m ≡ nat_abs (to_z w64 (of_z w64 z))
    → sign_text (lt_z (to_z w64 (of_z w64 z)) (pos 0)) m ≡ whole_text z
sign_whole z m f e = by (lt_z (to_z w64 (of_z w64 z)) (pos 0)) refl
  where
    n : m ≡ nat_abs z
    n = e ∙ ap nat_abs (to_z-of_z w64 z f)

    by : (b : Bool) → lt_z (to_z w64 (of_z w64 z)) (pos 0) ≡ b → sign_text b m ≡ whole_text z
    by true t = ap (λ (k : ℕ). 45 ∷ decimal k) n ∙ sym (whole_neg z f t)
    by false t = ap decimal n ∙ sym (whole_pos z f t)
