-- A conversion from a number: what it promises leaves it one answer.
-- Assumes nothing.
use mathlib.Core.Path.{◌≡◌, ◌∙◌, sym, ap}
use Prim.Native.Nat.{ℕ, ◌≤◌, ◌<◌}
use native.Mathlib.Omega.{arith}
use Rattle.std.specs.Prelude.{Result, Ok, Err, MatchResult}

-- the value whose number it is, or an error with a number that is over the most that a value has
abbrev pub Numbered : {A E : Type 0} → (A → ℕ) → (E → ℕ) → ℕ → ℕ → Result A E → Type 0
Numbered number told most n r = MatchResult r (λ x. number x ≡ n) (λ e. (told e ≡ n) × (most < n))

pub numbered_one : {A E : Type 0} (number : A → ℕ) (told : E → ℕ) (most n : ℕ) (r s : Result A E)
    → ((x y : A) → number x ≡ number y → x ≡ y) → ((d e : E) → told d ≡ told e → d ≡ e) → ((x : A) → number x ≤ most)
    → Numbered number told most n r → Numbered number told most n s → r ≡ s
numbered_one number told most n (Ok x) (Ok y) one same low p q = ap Ok (one x y (p ∙ sym q))
numbered_one number told most n (Ok x) (Err e) one same low p (q, over) = absurd (omega (arith, low x, p, over))
numbered_one number told most n (Err d) (Ok y) one same low (p, over) q = absurd (omega (arith, low y, q, over))
numbered_one number told most n (Err d) (Err e) one same low (p, over) (q, above) = ap Err (same d e (p ∙ sym q))
