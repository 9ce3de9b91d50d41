-- What a `match` on a number knows in an arm, turned into a rule of that number by one test that antt computes.
-- Assumes nothing.
use mathlib.Core.Path.{◌≡◌, ◌∙◌, sym, subst, ap}
use mathlib.Core.Bool.{Bool, true, false, ◌&&◌, ◌||◌}
use mathlib.Core.List.{List, [], ◌∷◌}
use mathlib.Core.Logic.{inl, inr}
use Prim.Native.Nat.{ℕ, zero, suc, ◌+◌, ◌-◌, ◌≤◌, ◌<◌}
use native.Mathlib.Omega.{arith}
use native.Mathlib.Nat.{add-suc, suc-add, add-zero, not-suc-le-zero, le_of_suc-le-suc}
use lib.Dec.{T}
use mir.Val.{has_key}
use types.Run.{OneOf, hit}
use Rattle.base.specs.Tests.{all}
use Rattle.base.proofs.Bools.{and_left, and_right, or_other}

-- an arm of single numbers
pub by_keys : (p : ℕ → Bool) (x : ℕ) (ks : List ℕ) → OneOf ks x → T (all p ks) → T (p x)
by_keys p x [] h t = absurd h
by_keys p x (k ∷ []) h t = subst (λ (y : ℕ). T (p y)) (sym h) (and_left (p k) true t)
by_keys p x (k ∷ (k' ∷ ks)) (inl h) t = subst (λ (y : ℕ). T (p y)) (sym h) (and_left (p k) (all p (k' ∷ ks)) t)
by_keys p x (k ∷ (k' ∷ ks)) (inr h) t = by_keys p x (k' ∷ ks) h (and_right (p k) (all p (k' ∷ ks)) t)

-- the test passes at the m numbers from a on
abbrev pub every_from : (ℕ → Bool) → ℕ → ℕ → Bool
every_from p a zero = true
every_from p a (suc m) = p a && every_from p (suc a) m

at_offset : (p : ℕ → Bool) (m a k : ℕ) → k < m → T (every_from p a m) → T (p (a + k))
at_offset p zero a k h t = absurd (not-suc-le-zero h)
at_offset p (suc m) a zero h t =
    subst (λ (y : ℕ). T (p y)) (sym (add-zero a)) (and_left (p a) (every_from p (suc a) m) t)
at_offset p (suc m) a (suc k) h t =
    subst (λ (y : ℕ). T (p y)) (suc-add a k ∙ sym (add-suc a k))
    (at_offset p m (suc a) k (le_of_suc-le-suc h) (and_right (p a) (every_from p (suc a) m) t))

pub in_range : (p : ℕ → Bool) (a m x : ℕ) → a ≤ x → x < a + m → T (every_from p a m) → T (p x)
in_range p a m x h l t =
    let e : a + (x - a) ≡ x = omega arith in
    let l' : x - a < m = omega arith in
    subst (λ (y : ℕ). T (p y)) e (at_offset p m a (x - a) l' t)

-- what the default and the arms of ranges know: x is none of the keys of the arms, the last arm's first
abbrev pub Rest : List (List ℕ) → ℕ → Type 0
Rest [] x = Unit {0}
Rest (ks ∷ kss) x = Rest kss x × (OneOf ks x → ⊥)

abbrev pub in_any : List (List ℕ) → ℕ → Bool
in_any [] x = false
in_any (ks ∷ kss) x = has_key ks x || in_any kss x

none : (kss : List (List ℕ)) (x : ℕ) → Rest kss x → T (in_any kss x) → ⊥
none [] x h t = t
none (ks ∷ kss) x h t = none kss x h.0 (or_other (has_key ks x) (in_any kss x) t (λ (y : T (has_key ks x)). h.1 (hit ks x y)))

-- an arm of a range, or the default: from a on, m numbers, but for the keys
pub by_rest : (p : ℕ → Bool) (a m x : ℕ) (kss : List (List ℕ)) → Rest kss x → a ≤ x → x < a + m
    → T (every_from (λ (k : ℕ). (in_any kss k || p k)) a m) → T (p x)
by_rest p a m x kss r h l t =
    or_other (in_any kss x) (p x) (in_range (λ (k : ℕ). (in_any kss k || p k)) a m x h l t) (none kss x r)

-- the default of a `match` whose arms are the n single numbers from a on
abbrev pub up_to : ℕ → ℕ → List (List ℕ)
up_to a zero = []
up_to a (suc n) = ((a + n) ∷ []) ∷ up_to a n

pub past : (a n x : ℕ) → Rest (up_to a n) x → a ≤ x → a + n ≤ x
past a zero x r h = omega arith
past a (suc n) x r h =
    let p : a + n ≤ x = past a n x r.0 h in
    let ne : (x ≡ a + n → ⊥) = r.1 in
    omega arith

-- an arm of one number
pub at : {A : Type 0} (f : ℕ → A) {x k : ℕ} → x ≡ k → f k ≡ f x
at f e = ap f (sym e)
