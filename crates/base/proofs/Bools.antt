-- Booleans: what two different constructors show, tests as types and as equations, and what a choice keeps.
-- Assumes nothing.
use mathlib.Core.Path.{◌≡◌, refl}
use mathlib.Core.Bool.{Bool, true, false, cond, not, ◌&&◌, ◌||◌}
use Prim.Native.Nat.{ℕ}
use native.Mathlib.Omega.{arith}
use lib.Dec.{T, eqb, eqb_refl, T_not}
use borrow.Author.Tests.{ne_eqb}

-- anything, where two different constructors are the same: `clash cc`
pub clash : {A : Type 0} → ◌≡◌ {A = ℕ} 0 1 → A
clash e = absurd (omega arith)

pub not_both : {b : Bool} → b ≡ true → b ≡ false → ⊥
not_both p q = clash cc

-- a test as a type and as an equation
pub T_true : (b : Bool) → T b → b ≡ true
T_true true t = refl
T_true false t = absurd t

pub true_t : (b : Bool) → b ≡ true → T b
true_t true e = tt
true_t false e = clash cc

pub T_false : (b : Bool) → T (not b) → b ≡ false
T_false true t = absurd t
T_false false t = refl

pub not_true : (b : Bool) → not b ≡ true → b ≡ false
not_true true e = clash cc
not_true false e = refl

-- numbers that are not the same
pub T-ne : (a b : ℕ) → T (not (eqb a b)) → a ≡ b → ⊥
T-ne a b t e = T_not (eqb a b) t (rw e (eqb_refl b))

pub ne_t : (a b : ℕ) → (a ≡ b → ⊥) → T (not (eqb a b))
ne_t a b n = rw (ne_eqb a b n) tt

-- both
pub and_left : (a b : Bool) → T (a && b) → T a
and_left true b t = tt
and_left false b t = t

pub and_right : (a b : Bool) → T (a && b) → T b
and_right true b t = t
and_right false b t = absurd t

pub and_both : (a b : Bool) → T a → T b → T (a && b)
and_both true b s t = t
and_both false b s t = s

pub and_true : (a b : Bool) → (a && b) ≡ true → (a ≡ true) × (b ≡ true)
and_true true b e = (refl, e)
and_true false b e = (cc, cc)

-- one of two
pub or_other : (a b : Bool) → T (a || b) → (T a → ⊥) → T b
or_other true b t n = absurd (n tt)
or_other false b t n = t

pub or_false : (a b : Bool) → (a || b) ≡ false → (a ≡ false) × (b ≡ false)
or_false true b e = (e, clash cc)
or_false false b e = (refl, e)

pub or_true : (a : Bool) → (a || true) ≡ true
or_true true = refl
or_true false = refl

-- what holds of both choices holds of the chosen
pub either : {A : Type 0} (P : A → Type 0) (t : Bool) (x y : A) → P x → P y → P (cond t x y)
either P true x y p q = p
either P false x y p q = q
