-- Laws of decimals: their digits from the last on, and how many there are.
-- Assumes nothing.
use mathlib.Core.Path.{◌≡◌, ap, ◌∙◌}
use mathlib.Core.Bool.{Bool, true, false}
use mathlib.Core.List.{List, [], ◌∷◌, ◌++◌}
use Prim.Native.Nat.{ℕ, zero, suc, ◌+◌, ◌^◌, ◌/◌, ◌%◌, ◌≤◌, ◌<◌}
use native.Mathlib.Nat.{not-suc-le-zero, pow-suc}
use native.Mathlib.Omega.{arith}
use native.Mathlib.Decide.{dec_lt}
use lib.ListN.{length, length-append}
use borrow.Author.Tests.{lt-ltb, le-ltb}
use Rattle.text.specs.Decimal.{up_to, decimal, sign_text}

-- more room for digits than are needed changes nothing
step : (k m n : ℕ) → (10 ≤ n → up_to k (n / 10) ≡ up_to m (n / 10)) → Dec (n < 10) → up_to (suc k) n ≡ up_to (suc m) n
unfolding up_to
step k m n f (yes s) = simp (lt-ltb n 10 s)
step k m n f (no s) =
    let b : 10 ≤ n = omega arith in
    simp (le-ltb n 10 b) (ap (λ (l : List ℕ). l ++ ((48 + n % 10) ∷ [])) (f b))

fuel : (k m n : ℕ) → n ≤ k → n ≤ m → up_to (suc k) n ≡ up_to (suc m) n
fuel zero m n h g = step zero m n (λ b. let z : ⊥ = omega arith in absurd z) (dec_lt n 10)
fuel (suc k) zero n h g = step (suc k) zero n (λ b. let z : ⊥ = omega arith in absurd z) (dec_lt n 10)
fuel (suc k) (suc m) n h g = step (suc k) (suc m) n (λ b. fuel k m (n / 10) (omega arith) (omega arith)) (dec_lt n 10)

pub decimal_small : (n : ℕ) → n < 10 → decimal n ≡ (48 + n) ∷ []
unfolding decimal up_to
decimal_small n s = simp (lt-ltb n 10 s)

more : (n : ℕ) → 10 ≤ n → up_to (suc n) n ≡ up_to n (n / 10) ++ ((48 + n % 10) ∷ [])
unfolding up_to
more n b = simp (le-ltb n 10 b)

pub decimal_more : (n : ℕ) → 10 ≤ n → decimal n ≡ decimal (n / 10) ++ ((48 + n % 10) ∷ [])
unfolding decimal
decimal_more zero s = absurd (not-suc-le-zero s)
decimal_more (suc k) s = more (suc k) s ∙ ap (λ (l : List ℕ). l ++ ((48 + suc k % 10) ∷ [])) (fuel k (suc k / 10) (suc k / 10) (omega arith) (omega arith))

pub decimal_length_more : (n : ℕ) → 10 ≤ n → length (decimal n) ≡ length (decimal (n / 10)) + 1
decimal_length_more n h = ap length (decimal_more n h) ∙ length-append (decimal (n / 10)) ((48 + n % 10) ∷ [])

-- a number below 10 ^ k has at most k digits
short_step : (k n : ℕ) → (10 ≤ n → length (decimal (n / 10)) ≤ k) → Dec (n < 10) → length (decimal n) ≤ suc k
short_step k n f (yes s) = omega (arith, ap length (decimal_small n s))
short_step k n f (no s) = let b : 10 ≤ n = omega arith in omega (arith, decimal_length_more n b, f b)

pub decimal_short : (k n : ℕ) → n < 10 ^ k → 0 < k → length (decimal n) ≤ k
decimal_short zero n h p = omega arith
decimal_short (suc zero) n h p = short_step zero n (λ b. let z : ⊥ = omega arith in absurd z) (dec_lt n 10)
decimal_short (suc (suc k)) n h p = short_step (suc k) n (λ b. decimal_short (suc k) (n / 10) (omega (arith, pow-suc 10 (suc k))) (omega arith)) (dec_lt n 10)

-- twenty characters are enough for a machine's number, and one more for its sign
pub decimal_fits : (n : ℕ) → n < 2 ^ 64 → length (decimal n) ≤ 20
decimal_fits n h = decimal_short 20 n (omega arith) (omega arith)

pub sign_fits : (b : Bool) (n : ℕ) → n < 2 ^ 64 → length (sign_text b n) ≤ 21
sign_fits true n h = omega (arith, decimal_fits n h)
sign_fits false n h = omega (arith, decimal_fits n h)
