-- Two's complement of m values is what w bits hold.
-- Assumes nothing.
use mathlib.Core.Path.{◌≡◌, refl, sym, ap, ◌∙◌}
use mathlib.Core.Bool.{Bool, true, false}
use Prim.Native.Nat.{ℕ, suc, ◌-◌, ◌/◌, ◌<◌, ◌^◌}
use native.Mathlib.Omega.{arith}
use borrow.Author.Tests.{ltb-true, lt-ltb}
use lib.Dec.{ltb}
use lib.IntN.{ℤ, pos, negsuc}
use lib.Signed.{lt_z, mag}
use mir.Syntax.{Width}
use mir.Val.{bits, hbits, SFits, to_z, of_z}
use mir.Facts.{to_z_pos, to_z-of_z, of_z-to_z, sfits_to_z}
use Rattle.base.proofs.Bools.{clash}
use Rattle.code.specs.Bytes.{signed, unsigned}

module _ (w : Width) (m : ℕ) (em : m ≡ 2 ^ bits w) (eh : m / 2 ≡ 2 ^ hbits w) where
  signed_by : (b : ℕ) → b < m → (t : Bool) → ltb b (m / 2) ≡ t → signed m b ≡ to_z w b
  unfolding signed
  signed_by b h true e = simp (e, rw eh at e)
  signed_by b h false e = simp (e, rw eh at e, lt-ltb b m h) (ap (λ (x : ℕ). negsuc (x - suc b)) em)

  pub signed_to_z : (b : ℕ) → b < m → signed m b ≡ to_z w b
  signed_to_z b h = signed_by b h (ltb b (m / 2)) refl

  pub unsigned_of_z : (z : ℤ) → unsigned m z ≡ of_z w z
  unsigned_of_z (pos n) = refl
  unsigned_of_z (negsuc n) = ap (λ (x : ℕ). x - suc n) em

  pub unsigned_small : (z : ℤ) → mag z < m / 2 → unsigned m z < m
  unsigned_small (pos n) h = omega arith
  unsigned_small (negsuc n) h = omega arith

  pub signed_small : (b : ℕ) → b < m → mag (signed m b) < m / 2
  signed_small b h = rw (signed_to_z b h, eh) (sfits_to_z {w = w} {n = b} (record { fits = rw em at h })).sfits

  -- reading what was written
  pub signed_unsigned : (z : ℤ) → mag z < m / 2 → signed m (unsigned m z) ≡ z
  signed_unsigned z h =
      signed_to_z (unsigned m z) (unsigned_small z h) ∙ ap (to_z w) (unsigned_of_z z)
      ∙ to_z-of_z {w = w} (record { sfits = rw eh at h })

  -- writing what was read
  pub unsigned_signed : (b : ℕ) → b < m → unsigned m (signed m b) ≡ b
  unsigned_signed b h =
      ap (unsigned m) (signed_to_z b h) ∙ unsigned_of_z (to_z w b) ∙ of_z-to_z {w = w} (record { fits = rw em at h })

  -- a way from a number below 0 to its bits: `!x` is not below 0
  module _ (top : ℕ) (et : suc top ≡ m) where
    pub flipped : (z : ℤ) → SFits w z → lt_z (to_z w (of_z w z)) (pos 0) ≡ true
        → to_z w (top - of_z w z) ≡ pos (top - unsigned m z)
    flipped (pos n) f e =
        let h : n < 0 = ltb-true n 0 (rw (to_z-of_z {w = w} f) at e) in
        absurd (omega arith)
    flipped (negsuc k) f e =
        let h : k < 2 ^ hbits w = f.sfits in
        to_z_pos w {n = top - (2 ^ bits w - suc k)} (omega arith) ∙ ap (λ (x : ℕ). pos (top - (x - suc k))) (sym em)

  pub kept : (z : ℤ) → SFits w z → lt_z (to_z w (of_z w z)) (pos 0) ≡ false → to_z w (of_z w z) ≡ pos (unsigned m z)
  kept (pos n) f e = to_z-of_z {w = w} f
  kept (negsuc k) f e =
      let q : lt_z (negsuc k) (pos 0) ≡ false = rw (to_z-of_z {w = w} f) at e in
      clash cc
