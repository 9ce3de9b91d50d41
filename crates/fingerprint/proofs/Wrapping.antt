-- The lower two digits of a product of two numbers of two digits each, in any base P: what counts P * P times is
-- left out.
-- Assumes nothing.
use Rattle.std.proofs.Common.{◌≡◌, ℕ, ◌+◌, ◌*◌, ◌/◌, ◌%◌, ◌^◌, ◌<◌, sym, refl, ap, ◌∙◌, lt_of_le_of_lt, le_of_lt, add_assoc, mul_assoc, mul_comm, add-mul, add_comm, mul-le-mul_left, mul-add, mul_left_comm, shl_lt, shr_lt, w64, Fits}
use native.Mathlib.Nat.{add_left_comm}
use native.Mathlib.Nat.{add-mod-mod, mod-add-mod, add-mul-mod_self_right}
use lib.Bits.{bit_and, and_mask, mask_lt}
use lib.Pow.{split}
use mir.Facts.{Fits-bits}
use Rattle.fingerprint.specs.Fnv.{wrapped}

by_digits : (P a₀ a₁ b₀ b₁ : ℕ)
    → (a₁ * P + a₀) * (b₁ * P + b₀) ≡ a₀ * b₀ + a₁ * b₀ * P + a₀ * b₁ * P + a₁ * b₁ * (P * P)
by_digits P a₀ a₁ b₀ b₁ =
    simp (mul-add, add-mul, mul_assoc, mul_comm, mul_left_comm, add_assoc, add_comm, add_left_comm) refl

-- a sum of three, of which the last two and the sum of the first two are cut to the modulus first
cut_sum : (x y z m : ℕ) → ((x + y % m) % m + z % m) % m ≡ (x + y + z) % m
cut_sum x y z m =
    add-mod-mod ((x + y % m) % m) z m ∙ ap (λ (n : ℕ). (n + z) % m) (add-mod-mod x y m) ∙ mod-add-mod (x + y) m z

low_digits : (P a₀ a₁ b₀ b₁ : ℕ)
    → ((a₀ * b₀ + a₁ * b₀ * P % (P * P)) % (P * P) + a₀ * b₁ * P % (P * P)) % (P * P)
    ≡ (a₁ * P + a₀) * (b₁ * P + b₀) % (P * P)
low_digits P a₀ a₁ b₀ b₁ =
    cut_sum (a₀ * b₀) (a₁ * b₀ * P) (a₀ * b₁ * P) (P * P)
    ∙ sym (ap (λ (n : ℕ). n % (P * P)) (by_digits P a₀ a₁ b₀ b₁)
    ∙ add-mul-mod_self_right (a₀ * b₀ + a₁ * b₀ * P + a₀ * b₁ * P) (a₁ * b₁) (P * P))

-- the lower half of a word
abbrev pub low : ℕ → ℕ
low n = bit_and n 0xffff_ffff

-- the upper half
abbrev pub high : ℕ → ℕ
high n = n / 2 ^ 32

-- a product of two halves fits a word
pub product_fits : {x y : ℕ} → x < 2 ^ 32 → y < 2 ^ 32 → Fits w64 (x * y)
product_fits {x} h l = Fits-bits (32 + 32) tt (lt_of_le_of_lt (mul-le-mul_left x (le_of_lt l)) (shl_lt 32 32 h))

pub low_fits : (n : ℕ) → low n < 2 ^ 32
low_fits n = mask_lt n 32

pub high_fits : {n : ℕ} → n < 2 ^ 64 → high n < 2 ^ 32
high_fits h = shr_lt 32 32 h

-- the product from half words, with `lo` for how a lower half is taken
abbrev halves_of : (lo : ℕ → ℕ) (a b : ℕ) → ℕ
halves_of lo a b =
    ((lo a * lo b + high a * lo b * 2 ^ 32 % 2 ^ 64) % 2 ^ 64 + lo a * high b * 2 ^ 32 % 2 ^ 64) % 2 ^ 64

pub halves_law : (a b : ℕ) → halves_of low a b ≡ wrapped a b
unfolding wrapped
halves_law a b =
    (λ i. halves_of (λ (n : ℕ). and_mask n 32 i) a b)
    ∙ low_digits (2 ^ 32) (a % 2 ^ 32) (high a) (b % 2 ^ 32) (high b)
    ∙ (λ i. split a 32 i * split b 32 i % 2 ^ 64)
