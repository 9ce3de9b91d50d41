-- Lists: elements by number, members of a mapped list, and cells of lists of numbers.
-- Assumes nothing.
use mathlib.Core.Path.{◌≡◌, refl, ap, ◌∙◌}
use mathlib.Core.Logic.{◌⊎◌, inl, inr, ◌≢◌}
use mathlib.Core.List.Memᴰ.{head as mhead}
use mathlib.Core.List.Memᴰ.{tail as mtail}
use mathlib.Core.List.{List, [], ◌∷◌, ◌++◌, append-nil, map, Memᴰ as Mem}
use mathlib.Core.Option.{some}
use Prim.Native.Nat.{ℕ, zero, suc, ◌+◌, ◌≤◌, ◌<◌}
use native.Mathlib.Nat.{zero-add, suc-add, not-suc-le-zero, le_of_suc-le-suc}
use native.Mathlib.Omega.{arith}
use lib.ListN.{length, get_or, take, drop, set, replicate, get_elem?}
use lib.Seq.{get_or-drop, drop-length}
use Rattle.base.proofs.Bools.{clash}

module _ {A : Type 0} where
  pub nth_left : (l m : List A) (k : ℕ) {a : A} → get_elem? l k ≡ some a → get_elem? (l ++ m) k ≡ some a
  nth_left [] m k {a} h = clash cc
  nth_left (x ∷ l) m zero h = h
  nth_left (x ∷ l) m (suc k) h = nth_left l m k h

  pub nth_cases : (l m : List A) (k : ℕ) {a : A} → get_elem? (l ++ m) k ≡ some a
      → (get_elem? l k ≡ some a) ⊎ ((i : ℕ) × (k ≡ length l + i) × (get_elem? m i ≡ some a))
  nth_cases [] m k h = inr (k, omega arith, h)
  nth_cases (x ∷ l) m zero h = inl h
  nth_cases (x ∷ l) m (suc k) {a} h = up (nth_cases l m k h)
    where
      up : (get_elem? l k ≡ some a) ⊎ ((i : ℕ) × (k ≡ length l + i) × (get_elem? m i ≡ some a))
          → (get_elem? (x ∷ l) (suc k) ≡ some a) ⊎ ((i : ℕ) × (suc k ≡ length (x ∷ l) + i) × (get_elem? m i ≡ some a))
      up (inl e) = inl e
      up (inr t) = inr (t.0, omega (arith, t.1), t.2)

  pub nth_lt : (l : List A) (k : ℕ) {a : A} → get_elem? l k ≡ some a → k < length l
  nth_lt [] k h = clash cc
  nth_lt (x ∷ l) zero h = omega arith
  nth_lt (x ∷ l) (suc k) h = omega (arith, nth_lt l k h)

  pub nth_seam : (l : List A) (a : A) (m : List A) → get_elem? (l ++ a ∷ m) (length l) ≡ some a
  nth_seam [] a m = refl
  nth_seam (x ∷ l) a m = nth_seam l a m

  pub nth_set_same : (l : List A) (k : ℕ) (v : A) {a : A} → get_elem? l k ≡ some a → get_elem? (set l k v) k ≡ some v
  nth_set_same [] k v h = clash cc
  nth_set_same (x ∷ l) zero v h = refl
  nth_set_same (x ∷ l) (suc k) v h = nth_set_same l k v h

  pub nth_set_other : (l : List A) (k i : ℕ) (v : A) → i ≢ k → get_elem? (set l k v) i ≡ get_elem? l i
  nth_set_other [] k i v n = refl
  nth_set_other (x ∷ l) zero zero v n = absurd (n refl)
  nth_set_other (x ∷ l) zero (suc i) v n = refl
  nth_set_other (x ∷ l) (suc k) zero v n = refl
  nth_set_other (x ∷ l) (suc k) (suc i) v n = nth_set_other l k i v (λ e. n (ap suc e))

module _ {A B : Type 0} (f : A → B) where
  pub mem_map : {a : A} {l : List A} → Mem a l → Mem (f a) (map f l)
  mem_map (mhead e) = mhead (ap f e)
  mem_map (mtail m) = mtail (mem_map m)

  pub mem_map_inv : (l : List A) {y : B} → Mem y (map f l) → (a : A) × Mem a l × (y ≡ f a)
  mem_map_inv [] m = elim m [ ]
  mem_map_inv (x ∷ l) {y} (mhead e) = (x, mhead refl, e)
  mem_map_inv (x ∷ l) {y} (mtail m) = let r = mem_map_inv l m in (r.0, mtail r.1, r.2)

-- cells of lists of numbers

pub take_below : (n : ℕ) (l : List ℕ) → ((i : ℕ) → get_or l i 0 < 256) → (i : ℕ) → get_or (take n l) i 0 < 256
take_below zero l b i = omega arith
take_below (suc n) [] b i = omega arith
take_below (suc n) (x ∷ l) b zero = b 0
take_below (suc n) (x ∷ l) b (suc i) = take_below n l (λ (j : ℕ). b (suc j)) i

pub drop_below : (n : ℕ) (l : List ℕ) → ((i : ℕ) → get_or l i 0 < 256) → (i : ℕ) → get_or (drop n l) i 0 < 256
drop_below n l b i = omega (arith, get_or-drop n l i 0, b (n + i))

-- what stands outside the list is not read inside it
pub get_d_any : (c : List ℕ) (o a b : ℕ) → o < length c → get_or c o a ≡ get_or c o b
get_d_any [] o a b l = absurd (not-suc-le-zero l)
get_d_any (x ∷ c) zero a b l = refl
get_d_any (x ∷ c) (suc o) a b l = get_d_any c o a b (le_of_suc-le-suc l)

-- a store behind a beginning
pub set_skip : (a l : List ℕ) (i v : ℕ) → set (a ++ l) (length a + i) v ≡ a ++ set l i v
set_skip [] l i v = rw zero-add
set_skip (x ∷ a) l i v = rw (suc-add (length a) i) (ap (λ (y : List ℕ). x ∷ y) (set_skip a l i v))

-- where all cells were passed that get one value, all hold it
pub filled : (d c : List ℕ) (i v : ℕ) → length d ≤ i → i ≤ length d → c ≡ replicate i v ++ drop i d
    → c ≡ replicate (length d) v
filled d c i v l m e =
    let z : i ≡ length d = omega arith in
    e ∙ ap (λ (n : ℕ). replicate n v ++ drop n d) z ∙ ap (λ (x : List ℕ). replicate (length d) v ++ x) (drop-length d)
    ∙ append-nil (replicate (length d) v)
