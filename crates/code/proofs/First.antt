-- What `first` answers: the first row below n that passes a test, described, and that only one row fits the
-- description.
-- Assumes nothing.
use Prim.Native.Nat.{ℕ, zero, suc, ◌+◌, ◌≤◌, ◌<◌}
use borrow.Author.Count.{below_none, below_more}
use native.Mathlib.Omega.{arith}
use mathlib.Core.Bool.{Bool, true, false, cond}
use mathlib.Core.Path.{◌≡◌, refl, ap, sym, subst, ◌∙◌}
use Rattle.code.specs.Rows.{first}

-- i is the first of the rows below n that passes, or n if none does
pub record IsFirst (test : ℕ → Bool) (n i : ℕ) : Type 0 where
  pub inside : i ≤ n
  pub below : (k : ℕ) → k < i → test k ≡ false
  pub hit : i < n → test i ≡ true

-- what fails at 0 and at each number shifted by one fails below
shifted : (test : ℕ → Bool) (i : ℕ) → test zero ≡ false → ((k : ℕ) → k < i → test (suc k) ≡ false) → (k : ℕ)
    → k < suc i → test k ≡ false
shifted test i none rest zero lt = none
shifted test i none rest (suc k) lt = rest k (omega arith)

pub first_is : (test : ℕ → Bool) (n i : ℕ) → IsFirst test n i → first test n ≡ i
unfolding first
first_is test zero zero d = refl
first_is test zero (suc i) d = let no : ⊥ = omega arith in absurd no
first_is test (suc n) zero d = rw (d.hit (omega arith))
first_is test (suc n) (suc i) d =
    rw (d.below zero (omega arith))
    (ap suc
    (first_is (λ k. test (suc k)) n i
    (record {
      inside = omega arith;
      below = λ k lt. d.below (suc k) (omega arith);
      hit = λ lt. d.hit (omega arith);
    })))

pub is_first : (test : ℕ → Bool) (n : ℕ) → IsFirst test n (first test n)
unfolding first
is_first test zero =
    record {
      inside = omega arith;
      below = λ k lt. let no : ⊥ = omega arith in absurd no;
      hit = λ lt. let no : ⊥ = omega arith in absurd no;
    }
is_first test (suc n) = go (test zero) refl (is_first (λ k. test (suc k)) n)
  where
    rest : ℕ
    rest = first (λ k. test (suc k)) n

    go : (b : Bool) → test zero ≡ b → IsFirst (λ k. test (suc k)) n rest → IsFirst test (suc n) (cond b zero (suc rest))
    go true e d =
        record {
          inside = omega arith;
          below = λ k lt. let no : ⊥ = omega arith in absurd no;
          hit = λ lt. e;
        }
    go false e d =
        record {
          inside = omega arith;
          below = shifted test rest e d.below;
          hit = λ lt. d.hit (omega arith);
        }

-- A scan's state: the rows before i did not pass.
pub record Passed (test : ℕ → Bool) (n i : ℕ) : Type 0 where
  pub inside : i ≤ n
  pub below : (k : ℕ) → k < i → test k ≡ false

module _ (test : ℕ → Bool) (n : ℕ) where
  pub passed_none : Passed test n 0
  passed_none = record { inside = omega arith; below = below_none (λ k. test k ≡ false) }

  pub passed_more : (i : ℕ) → Passed test n i → i < n → test i ≡ false → Passed test n (i + 1)
  passed_more i p lt miss =
      record { inside = omega arith; below = below_more (λ k. test k ≡ false) i p.below miss }

  -- the row that passes, and the end, are what is looked for
  pub passed_hit : (i : ℕ) → Passed test n i → test i ≡ true → i ≡ first test n
  passed_hit i p hit =
      sym (first_is test n i (record { inside = p.inside; below = p.below; hit = λ lt. hit }))

  pub passed_all : (i : ℕ) → Passed test n i → n ≤ i → i ≡ first test n
  passed_all i p le =
      sym
      (first_is test n i
      (record {
        inside = p.inside;
        below = p.below;
        hit = λ lt. let no : ⊥ = omega arith in absurd no;
      }))

  -- two rows more, and the last row by itself
  pub passed_two : (i : ℕ) → Passed test n i → i + 1 < n → test i ≡ false → test (i + 1) ≡ false → Passed test n (i + 2)
  passed_two i p lt miss also =
      let e : i + 1 + 1 ≡ i + 2 = omega arith in
      subst (Passed test n) e (passed_more (i + 1) (passed_more i p (omega arith) miss) lt also)

  pub passed_last : (i : ℕ) → Passed test n i → i < n → n ≤ i + 1 → test i ≡ false → n ≡ first test n
  passed_last i p lt le miss =
      let e : n ≡ i + 1 = omega arith in
      e ∙ passed_all (i + 1) (passed_more i p lt miss) le

-- tests that agree have the same first row
pub first_same : (test other : ℕ → Bool) (n : ℕ) → ((k : ℕ) → test k ≡ other k) → first test n ≡ first other n
unfolding first
first_same test other zero same = refl
first_same test other (suc n) same =
    rw (same zero, first_same (λ k. test (suc k)) (λ k. other (suc k)) n (λ k. same (suc k)))
