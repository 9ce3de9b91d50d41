-- Laws of cells: what a store changes, cells as an assignment, and how many hold a depth.
-- Assumes nothing.
use mathlib.Core.Path.{◌≡◌, refl, sym, ap, subst, ◌∙◌}
use mathlib.Core.Bool.{Bool, true, false, cond}
use mathlib.Core.List.{List, [], ◌∷◌, ◌++◌}
use Rattle.std.specs.Prelude.{None, Some}
use Prim.Native.Nat.{ℕ, zero, suc, ◌+◌, ◌-◌, ◌≤◌, ◌<◌}
use native.Mathlib.Omega.{arith}
use native.Mathlib.Decide.{dec_lt, ℕ_discrete}
use native.Mathlib.Nat.{le_of_suc-le-suc, not-suc-le-zero}
use lib.Dec.{leb}
use lib.ListN.{length, get_or, set, take, replicate, length-replicate, get_or-replicate, get_or-eq_default}
use lib.Seq.{get_or-set_same, get_or-set_other, take-suc, take-length}
use borrow.Author.Tests.{le-leb, lt-leb, leb-true}
use Rattle.base.proofs.Bools.{clash}
use Rattle.base.proofs.Lists.{get_d_any}
use Rattle.checker.specs.Cells.{cell, depth_in, held}

-- cells as an assignment

pub depth_in_lem : (c : List ℕ) (o d : ℕ) → cell c o ≡ d → d ≤ 65535 → depth_in c o ≡ Some d
unfolding depth_in
depth_in_lem c o d e l = rw (e, le-leb d 65535 l)

picked : (b : Bool) (x d : ℕ) → cond b (Some x) None ≡ Some d → (b ≡ true) × (x ≡ d)
picked true x d e = (refl, cc)
picked false x d e = clash cc

pub in_depth : (c : List ℕ) (o d : ℕ) → depth_in c o ≡ Some d → (cell c o ≡ d) × (d ≤ 65535)
unfolding depth_in
in_depth c o d e =
    let p = picked (leb (cell c o) 65535) (cell c o) d e in
    (p.1, omega (arith, p.1, leb-true (cell c o) 65535 p.0))

-- equal cells hold equal depths
pub depth_same : (c c' : List ℕ) (o : ℕ) → cell c' o ≡ cell c o → depth_in c' o ≡ depth_in c o
unfolding depth_in
depth_same c c' o e = rw e

-- stores, in cells that are read with the default e

-- a store seen at any offset
pub set_at : (c : List ℕ) (o d e : ℕ) → o < length c → (P : ℕ → ℕ → Type 0) (q : ℕ) → P d o
    → ((q ≡ o → ⊥) → P (get_or c q e) q) → P (get_or (set c o d) q e) q
set_at c o d e l P q here there = elim (ℕ_discrete q o) [
  | yes z ↦ subst (λ (y : ℕ). P (get_or (set c o d) y e) y) (sym z)
      (subst (λ (x : ℕ). P x o) (sym (get_or-set_same c o d e l)) here)
  | no n ↦ subst (λ (x : ℕ). P x q) (sym (get_or-set_other c o q d e n)) (there n)
]

pub cell_in : (c : List ℕ) (o : ℕ) → (cell c o ≡ 65536 → ⊥) → o < length c
cell_in c o n = elim (dec_lt o (length c)) [ yes l ↦ l | no g ↦ absurd (n (get_or-eq_default c 65536 (omega arith))) ]

-- all cells hold one value

pub all_size : (n v : ℕ) (c : List ℕ) → c ≡ replicate n v → length c ≡ n
all_size n v c e = ap length e ∙ length-replicate n v

-- read with that value as the default, they hold it at every offset
pub all_are : (n v : ℕ) (c : List ℕ) → c ≡ replicate n v → (o : ℕ) → get_or c o v ≡ v
all_are n v c e o = ap (λ (x : List ℕ). get_or x o v) e ∙ elim (dec_lt o n) [
  | yes l ↦ get_or-replicate n o v v l
  | no l ↦ get_or-eq_default (replicate n v) v (omega (arith, length-replicate n v))
]

-- how many hold a depth

pub held_le : (c : List ℕ) → held c ≤ length c
unfolding held
held_le [] = omega arith
held_le (x ∷ c) = let h = held_le c in one (leb x 65535) (held c) (length c) h
  where
    one : (b : Bool) (p q : ℕ) → p ≤ q → cond b 1 0 + p ≤ suc q
    one true p q l = omega arith
    one false p q l = omega arith

pub held_set : (c : List ℕ) (o d : ℕ) → o < length c → 65535 < cell c o → d ≤ 65535 → held (set c o d) ≡ suc (held c)
unfolding held
held_set [] o d l h g = absurd (not-suc-le-zero l)
held_set (x ∷ c) zero d l h g = simp (le-leb d 65535 g, lt-leb x 65535 h) (omega arith)
held_set (x ∷ c) (suc o) d l h g = let z = held_set c o d (le_of_suc-le-suc l) h g in omega (arith, z)

pub held_none : (n : ℕ) → held (replicate n 65536) ≡ 0
unfolding held
held_none zero = refl
held_none (suc n) = omega (arith, held_none n)

held_append : (c e : List ℕ) → held (c ++ e) ≡ held c + held e
unfolding held
held_append [] e = omega arith
held_append (x ∷ c) e = let z = held_append c e in omega (arith, z)

-- all but the last
module _ (c : List ℕ) (l : 0 < length c) where
  split : held c ≡ held (take (length c - 1) c) + held (cell c (length c - 1) ∷ [])
  split =
      let e : suc (length c - 1) ≡ length c = omega arith in
      ap held (sym (take-length c)) ∙ ap (λ (n : ℕ). held (take n c)) (sym e)
      ∙ ap held (take-suc c (length c - 1) 65536 (omega arith))
      ∙ held_append (take (length c - 1) c) (cell c (length c - 1) ∷ [])

  last_cell : cell c (length c - 1) ≡ get_or c (length c - 1) 0
  last_cell = get_d_any c (length c - 1) 65536 0 (omega arith)

  pub held_before : get_or c (length c - 1) 0 ≤ 65535 → held c ≡ held (take (length c - 1) c) + 1
  unfolding held
  held_before h =
      let l : cell c (length c - 1) ≤ 65535 = omega (arith, last_cell) in
      let one : held (cell c (length c - 1) ∷ []) ≡ 1 = simp (le-leb (cell c (length c - 1)) 65535 l) in
      omega (arith, split, one)

  pub held_same : 65535 < get_or c (length c - 1) 0 → held c ≡ held (take (length c - 1) c)
  unfolding held
  held_same h =
      let l : 65535 < cell c (length c - 1) = omega (arith, last_cell) in
      let no_more : held (cell c (length c - 1) ∷ []) ≡ 0 = simp (lt-leb (cell c (length c - 1)) 65535 l) in
      omega (arith, split, no_more)
