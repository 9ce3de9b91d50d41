-- The target of a jump and signed operands, as the machine computes them.
-- Assumes nothing.
use mathlib.Core.Path.{◌≡◌, refl, sym, ap, ◌∙◌, subst⁻¹}
use mathlib.Core.Bool.{Bool, true, false, cond}
use Prim.Native.Nat.{ℕ, suc, ◌+◌, ◌-◌, ◌≤◌, ◌^◌}
use native.Mathlib.Omega.{arith}
use lib.Dec.{ltb}
use lib.IntN.{ℤ, pos, negsuc, ◌+ℤ◌}
use lib.Signed.{mag}
use mir.Syntax.{Width, w16, w64}
use mir.Val.{SFits, to_z, of_z, hbits}
use mir.ValLaws.{to_z-of_z, to_z_pos}
use Rattle.text.specs.Decimal.{whole_text}

mag_sub : (a b : ℕ) (t : Bool) → ltb a b ≡ t → mag (cond t (negsuc (b - suc a)) (pos (a - b))) ≤ a + b
mag_sub a b true e = omega arith
mag_sub a b false e = omega arith

pub mag_add : (a : ℕ) (z : ℤ) → mag (pos a +ℤ z) ≤ a + suc (mag z)
mag_add a (pos n) = omega arith
mag_add a (negsuc n) = mag_sub a (suc n) (ltb a (suc n)) refl

module _ (at : ℕ) (d : ℤ) (small : at ≤ 1048576) (fits : SFits w16 d) where
  up : to_z w64 at +ℤ pos 3 ≡ pos (at + 3)
  up = ap (λ (x : ℤ). x +ℤ pos 3) (to_z_pos w64 at (omega arith))

  up_fits : SFits w64 (pos (at + 3))
  up_fits = record { sfits = omega arith }

  pub first_fits : SFits w64 (to_z w64 at +ℤ pos 3)
  first_fits = subst⁻¹ (λ (x : ℤ). SFits w64 x) up up_fits

  d_fits : SFits w64 d
  d_fits = record { sfits = omega (arith, fits.sfits) }

  pub wide_fits : SFits w64 (to_z w16 (of_z w16 d))
  wide_fits = subst⁻¹ (λ (x : ℤ). SFits w64 x) (to_z-of_z w16 d fits) d_fits

  sum : to_z w64 (of_z w64 (to_z w64 at +ℤ pos 3)) +ℤ to_z w64 (of_z w64 (to_z w16 (of_z w16 d))) ≡ pos (at + 3) +ℤ d
  sum =
      ap (λ (x : ℤ). to_z w64 (of_z w64 x) +ℤ to_z w64 (of_z w64 (to_z w16 (of_z w16 d)))) up
      ∙ ap (λ (x : ℤ). x +ℤ to_z w64 (of_z w64 (to_z w16 (of_z w16 d)))) (to_z-of_z w64 (pos (at + 3)) up_fits)
      ∙ ap (λ (x : ℤ). pos (at + 3) +ℤ to_z w64 (of_z w64 x)) (to_z-of_z w16 d fits)
      ∙ ap (λ (x : ℤ). pos (at + 3) +ℤ x) (to_z-of_z w64 d d_fits)

  result_fits : SFits w64 (pos (at + 3) +ℤ d)
  result_fits = record { sfits = omega (arith, mag_add (at + 3) d, fits.sfits) }

  pub sum_fits : SFits w64 (to_z w64 (of_z w64 (to_z w64 at +ℤ pos 3)) +ℤ to_z w64 (of_z w64 (to_z w16 (of_z w16 d))))
  sum_fits = subst⁻¹ (λ (x : ℤ). SFits w64 x) sum result_fits

  pub sum_is : to_z w64 (of_z w64 (to_z w64 (of_z w64 (to_z w64 at +ℤ pos 3)) +ℤ to_z w64 (of_z w64 (to_z w16 (of_z w16 d))))) ≡ pos (at + 3) +ℤ d
  sum_is = ap (λ (x : ℤ). to_z w64 (of_z w64 x)) sum ∙ to_z-of_z w64 (pos (at + 3) +ℤ d) result_fits

  -- the same, handed on once more
  pub again : to_z w64 (of_z w64 (pos (at + 3) +ℤ d)) ≡ pos (at + 3) +ℤ d
  again = to_z-of_z w64 (pos (at + 3) +ℤ d) result_fits

-- a signed number handed on at 64 bits
pub wider_fits : (w : Width) (z : ℤ) → 2 ^ hbits w ≤ 2 ^ 63 → SFits w z → SFits w64 (to_z w (of_z w z))
wider_fits w z h f = subst⁻¹ (λ (x : ℤ). SFits w64 x) (to_z-of_z w z f) (record { sfits = omega (arith, f.sfits) })

pub wider : (w : Width) (z : ℤ) → 2 ^ hbits w ≤ 2 ^ 63 → SFits w z → to_z w64 (of_z w64 (to_z w (of_z w z))) ≡ z
wider w z h f = ap (λ (x : ℤ). to_z w64 (of_z w64 x)) (to_z-of_z w z f)
    ∙ to_z-of_z w64 z (record { sfits = omega (arith, f.sfits) })

-- and its text
pub handed : (w : Width) (z : ℤ) → 2 ^ hbits w ≤ 2 ^ 63 → SFits w z
    → whole_text z ≡ whole_text (to_z w64 (of_z w64 (to_z w (of_z w z))))
handed w z h f = ap whole_text (sym (wider w z h f))
