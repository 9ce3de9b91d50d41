-- Laws of rising lists and of the count: two rising lists with the same members are one, so an assignment has one
-- count.
-- Assumes nothing.
use mathlib.Core.Path.{◌≡◌, refl, sym, ap, ◌∙◌}
use mathlib.Core.List.Memᴰ
use mathlib.Core.List.{List, [], ◌∷◌, Memᴰ}
use mathlib.Core.Logic.{⊎_elim}
use Rattle.std.specs.Prelude.{Option}
use Prim.Native.Nat.{ℕ, suc, ◌≤◌}
use native.Mathlib.Omega.{arith}
use lib.ListN.{length}
use Rattle.code.specs.Depths.{Rising, Counts}

-- a member is at least the bound
pub rising_over : (n : ℕ) (xs : List ℕ) → Rising n xs → (o : ℕ) → Memᴰ o xs → n ≤ o
rising_over n [] r o m = absurd (Memᴰ.not-nil m)
rising_over n (x ∷ xs) r o m = ⊎_elim (λ e. omega (arith, e, r.0)) (λ k. omega (arith, rising_over (suc x) xs r.1 o k, r.0)) (Memᴰ.cases_cons m)

pub rising_lower : (n m : ℕ) (xs : List ℕ) → n ≤ m → Rising m xs → Rising n xs
rising_lower n m [] l r = tt
rising_lower n m (x ∷ xs) l r = (omega (arith, r.0), r.1)

-- the head is the least
heads : (n m x y : ℕ) (xs ys : List ℕ) → Rising n (x ∷ xs) → Rising m (y ∷ ys) → Memᴰ x (y ∷ ys)
    → Memᴰ y (x ∷ xs) → x ≡ y
heads n m x y xs ys r q mx my =
    ⊎_elim (λ e. e) (λ k. ⊎_elim (λ e. sym e) (λ j.
    let a = rising_over (suc y) ys q.1 x k in
    let b = rising_over (suc x) xs r.1 y j in
    omega arith) (Memᴰ.cases_cons my)) (Memᴰ.cases_cons mx)

-- a member that is not the head is in the rest
rest_in : (x y o : ℕ) (xs ys : List ℕ) → x ≡ y → Rising (suc x) xs → Memᴰ o xs → Memᴰ o (y ∷ ys)
    → Memᴰ o ys
rest_in x y o xs ys e r m k =
    ⊎_elim (λ z. absurd (omega (arith, rising_over (suc x) xs r o m))) (λ j. j) (Memᴰ.cases_cons k)

pub rising_one : (n m : ℕ) (xs ys : List ℕ) → Rising n xs → Rising m ys → ((o : ℕ) → Memᴰ o xs → Memᴰ o ys)
    → ((o : ℕ) → Memᴰ o ys → Memᴰ o xs) → xs ≡ ys
rising_one n m [] [] r q to from = refl
rising_one n m [] (y ∷ ys) r q to from = absurd (Memᴰ.not-nil (from y (Memᴰ.head refl)))
rising_one n m (x ∷ xs) [] r q to from = absurd (Memᴰ.not-nil (to x (Memᴰ.head refl)))
rising_one n m (x ∷ xs) (y ∷ ys) r q to from =
    let e : x ≡ y = heads n m x y xs ys r q (to x (Memᴰ.head refl)) (from y (Memᴰ.head refl)) in
    let t : xs ≡ ys = rising_one (suc x) (suc y) xs ys r.1 q.1
    (λ o k. rest_in x y o xs ys e r.1 k (to o (Memᴰ.tail k)))
    (λ o k. rest_in y x o ys xs (sym e) q.1 k (from o (Memᴰ.tail k))) in
    cc

-- an assignment has one count
pub counts_one : {last : ℕ} {s : List ℕ} {a b : ℕ → Option ℕ} {k m : ℕ} → ((o : ℕ) → a o ≡ b o) → Counts last s a k
    → Counts last s b m → k ≡ m
counts_one {s} {a} {b} {k} {m} same A B =
    A.count ∙ ap length (rising_one 0 0 A.starts B.starts A.rising B.rising to from) ∙ sym B.count
  where
    to : (o : ℕ) → Memᴰ o A.starts → Memᴰ o B.starts
    to o j = let g = A.each o j in B.all o g.1 g.0 g.2 g.3 (sym (same o) ∙ g.4)

    from : (o : ℕ) → Memᴰ o B.starts → Memᴰ o A.starts
    from o j = let g = B.each o j in A.all o g.1 g.0 g.2 g.3 (same o ∙ g.4)
