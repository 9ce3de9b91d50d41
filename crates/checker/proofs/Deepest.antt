-- Laws of the greatest depth: that of cells is their assignment's, and an assignment has one; and what is accepted is
-- its two numbers.
-- Assumes nothing.
use mathlib.Core.Path.{◌≡◌, refl, sym, ap, ◌∙◌}
use mathlib.Core.List.{List, [], ◌∷◌}
use mathlib.Core.Logic.{◌⊎◌, inl, inr}
use Rattle.std.specs.Prelude.{None, Option, Some}
use Prim.Native.Nat.{ℕ, zero, suc, ◌≤◌, ◌<◌}
use native.Mathlib.Decide.{dec_le}
use native.Mathlib.Omega.{arith}
use Rattle.base.proofs.Bools.{clash}
use Rattle.checker.specs.declared.Assignment.{Assignment}
use Rattle.checker.specs.Cells.{cell, depth_in}
use Rattle.checker.specs.Promise.{Greatest}
use Rattle.std.specs.List.{fold}
use Rattle.checker.specs.Inner.{greater, greatest_in}
use Rattle.checker.proofs.Holding.{depth_in_lem, in_depth}

-- what `greater` chooses

record Chosen (m x y : ℕ) : Type 0 where
  over : m ≤ y
  covers : x ≤ 65535 → x ≤ y
  which : ((y ≡ x) × (x ≤ 65535)) ⊎ ((y ≡ m) × (x ≤ 65535 → x < m))

greater_chosen : (m x : ℕ) → x ≤ 65536 → Chosen m x (greater m x)
greater_chosen m x s = elim (dec_le x 65535) [
  | yes h ↦ elim (dec_le m x) [
    | yes l ↦ record { over = omega arith; covers = λ i. omega arith; which = inl (omega arith, h) }
    | no l ↦ record { over = omega arith; covers = λ i. omega arith; which = inr (omega arith, λ i. omega arith) }
  ]
  | no h ↦ record {
    over = omega arith;
    covers = λ i. absurd (omega arith);
    which = inr (omega arith, λ i. absurd (omega arith));
  }
]

-- g is the greatest of m and the depths in c

record Tops (m : ℕ) (c : List ℕ) (g : ℕ) : Type 0 where
  over : m ≤ g
  most : (o d : ℕ) → depth_in c o ≡ Some d → d ≤ g
  assigned : ((o : ℕ) × (depth_in c o ≡ Some g)) ⊎ ((g ≡ m) × ((o d : ℕ) → depth_in c o ≡ Some d → d < m))

none_held : (o d : ℕ) → depth_in [] o ≡ Some d → ⊥
unfolding depth_in
none_held o d e = clash cc

module _ (m x : ℕ) (c : List ℕ) (g : ℕ) (T : Tops (greater m x) c g) where
  -- what holds of the first cell and of those behind it holds of all
  first_or : (P : ℕ → Type 0) → (x ≤ 65535 → P x) → ((o d : ℕ) → depth_in c o ≡ Some d → P d)
      → (o d : ℕ) → depth_in (x ∷ c) o ≡ Some d → P d
  unfolding depth_in
  first_or P here behind zero d e =
      let i = in_depth (x ∷ c) 0 d e in
      let z : x ≡ d = i.0 in
      rw (← z) (here (omega (arith, z, i.1)))
  first_or P here behind (suc o) d e = behind o d e

  behind_it : (o d : ℕ) → depth_in c o ≡ Some d → depth_in (x ∷ c) (suc o) ≡ Some d
  unfolding depth_in
  behind_it o d e = e

  tops_by : Chosen m x (greater m x) → Tops m (x ∷ c) g
  tops_by C = record {
    over = omega (arith, C.over, T.over);
    most = first_or (λ d. d ≤ g) (λ h. omega (arith, C.covers h, T.over)) T.most;
    assigned = by C.which T.assigned;
  }
    where
      by : ((greater m x ≡ x) × (x ≤ 65535)) ⊎ ((greater m x ≡ m) × (x ≤ 65535 → x < m))
          → ((o : ℕ) × (depth_in c o ≡ Some g))
          ⊎ ((g ≡ greater m x) × ((o d : ℕ) → depth_in c o ≡ Some d → d < greater m x))
          → ((o : ℕ) × (depth_in (x ∷ c) o ≡ Some g))
          ⊎ ((g ≡ m) × ((o d : ℕ) → depth_in (x ∷ c) o ≡ Some d → d < m))
      by w (inl i) = inl (suc i.0, behind_it i.0 g i.1)
      by (inl w) (inr i) = inl (0, depth_in_lem (x ∷ c) 0 g (sym (i.0 ∙ w.0)) (omega (arith, i.0, w.0, w.1)))
      by (inr w) (inr i) = inr (
        i.0 ∙ w.0,
        first_or (λ d. d < m) w.1 (λ o d e. omega (arith, i.1 o d e, w.0)),
      )

tops : (m : ℕ) (c : List ℕ) → ((o : ℕ) → cell c o ≤ 65536) → Tops m c (fold greater m c)
tops m [] small = record {
  over = omega arith;
  most = λ o d e. absurd (none_held o d e);
  assigned = inr (refl, λ o d e. absurd (none_held o d e));
}
tops m (x ∷ c) small =
    tops_by m x c (fold greater (greater m x) c) (tops (greater m x) c (λ o. small (suc o))) (greater_chosen m x (small 0))

-- the greatest depth in cells is their assignment's
pub greatest_in_lem : (c : List ℕ) → ((o : ℕ) → cell c o ≤ 65536) → Greatest (depth_in c) (greatest_in c)
greatest_in_lem c small = record { most = T.most; assigned = by T.assigned }
  where
    T : Tops 0 c (greatest_in c)
    T = tops 0 c small

    no_depth_lem : (x : Option ℕ) → ((d : ℕ) → x ≡ Some d → d < 0) → x ≡ None
    no_depth_lem None h = refl
    no_depth_lem (Some d) h = absurd (omega (arith, h d refl))

    by : ((o : ℕ) × (depth_in c o ≡ Some (greatest_in c)))
        ⊎ ((greatest_in c ≡ 0) × ((o d : ℕ) → depth_in c o ≡ Some d → d < 0))
        → ((o : ℕ) × (depth_in c o ≡ Some (greatest_in c))) ⊎ ((greatest_in c ≡ 0) × ((o : ℕ) → depth_in c o ≡ None))
    by (inl i) = inl i
    by (inr i) = inr (i.0, λ o. no_depth_lem (depth_in c o) (i.1 o))

-- an assignment has one greatest depth
pub greatest_one : {a b : ℕ → Option ℕ} {g h : ℕ} → ((o : ℕ) → a o ≡ b o) → Greatest a g → Greatest b h → g ≡ h
greatest_one {a} {b} {g} {h} same A B = by A.assigned B.assigned
  where
    not_none : {x : Option ℕ} {d : ℕ} → x ≡ Some d → x ≡ None → ⊥
    not_none {x} {d} e n = clash cc

    by : ((o : ℕ) × (a o ≡ Some g)) ⊎ ((g ≡ 0) × ((o : ℕ) → a o ≡ None))
        → ((o : ℕ) × (b o ≡ Some h)) ⊎ ((h ≡ 0) × ((o : ℕ) → b o ≡ None)) → g ≡ h
    by (inl i) (inl j) =
        let up = B.most i.0 g (sym (same i.0) ∙ i.1) in
        let down = A.most j.0 h (same j.0 ∙ j.1) in
        omega arith
    by (inl i) (inr j) = absurd (not_none i.1 (same i.0 ∙ j.1 i.0))
    by (inr i) (inl j) = absurd (not_none j.1 (sym (same j.0) ∙ i.1 j.0))
    by (inr i) (inr j) = i.0 ∙ sym j.0

pub assignment_one : {a b : Assignment} → a.count ≡ b.count → a.greatest ≡ b.greatest → a ≡ b
assignment_one {a} {b} k g = ap (λ (n : ℕ). made n a.greatest) k ∙ ap (made b.count) g
  where
    made : ℕ → ℕ → Assignment
    made count greatest = record { count = count; greatest = greatest }
