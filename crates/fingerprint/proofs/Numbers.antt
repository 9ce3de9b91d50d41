-- What undoes an exclusive or, and what undoes a factor under a modulus. Numbers alone.
-- Assumes nothing.
use Rattle.std.proofs.Common.{◌≡◌, ℕ, zero, suc, ◌+◌, ◌*◌, ◌/◌, ◌%◌, ◌<◌, sym, refl, ap, ◌∙◌, ap₂, mod-lt, mod-eq_of_lt, mul_assoc, mul_comm, add-mul, add_comm, div-add-mod', mul-one, mul-add, mul_left_comm, arith}
use native.Mathlib.Nat.{add-mul-mod_self_right}
use lib.Arith.{bin_ind}
use lib.Bits.{bit_xor, differ, xor_step, xor_shr, xor_mod}

bit_back : (x y : ℕ) → x < 2 → y < 2 → differ x (bit_xor x y) ≡ y
bit_back zero y h k = refl
bit_back (suc zero) zero h k = refl
bit_back (suc zero) (suc zero) h k = refl
bit_back (suc zero) (suc (suc y)) h k = absurd (omega arith)
bit_back (suc (suc x)) y h k = absurd (omega arith)

-- mixed in twice, a number is gone again
xor_back : (a b : ℕ) → bit_xor a (bit_xor a b) ≡ b
xor_back =
    bin_ind (λ (n : ℕ). (b : ℕ) → bit_xor n (bit_xor n b) ≡ b) (λ b. refl)
    (λ n ih b. xor_step n (bit_xor n b)
    ∙ ap₂ (λ (high low : ℕ). high * 2 + low) (ap (bit_xor (n / 2)) (xor_shr n b 1) ∙ ih (b / 2))
    (ap (differ (n % 2)) (xor_mod n b 1) ∙ bit_back (n % 2) (b % 2) (mod-lt n (omega arith)) (mod-lt b (omega arith)))
    ∙ div-add-mod' b 2)

pub xor_cancel : (a b c : ℕ) → bit_xor a b ≡ bit_xor a c → b ≡ c
xor_cancel a b c e = sym (xor_back a b) ∙ ap (bit_xor a) e ∙ xor_back a c

-- a factor may be cut to the modulus first
cut_factor : (x q m : ℕ) → x % m * q % m ≡ x * q % m
cut_factor x q m =
    let by_parts : x * q ≡ x % m * q + x / m * q * m =
    ap (λ (n : ℕ). n * q) (sym (div-add-mod' x m))
    ∙ simp (add-mul, mul_assoc, mul_comm, mul_left_comm, add_comm) refl in
    sym (ap (λ (n : ℕ). n % m) by_parts ∙ add-mul-mod_self_right (x % m * q) (x / m * q) m)

-- where the product of two factors leaves 1, the second undoes the first
pub factor_back : (m p q t x : ℕ) → p * q ≡ t * m + 1 → x < m → x * p % m * q % m ≡ x
factor_back m p q t x one h =
    let around : x * p * q ≡ x + x * t * m =
    mul_assoc x p q ∙ ap (λ (n : ℕ). x * n) one ∙ simp (mul-add, mul-one, mul_assoc, add_comm) refl in
    cut_factor (x * p) q m ∙ ap (λ (n : ℕ). n % m) around ∙ add-mul-mod_self_right x (x * t) m ∙ mod-eq_of_lt h
