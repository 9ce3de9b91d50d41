-- Each name is its opcode's alone, and has no character below `0`, so no separator: one computed test over the table
-- for each.
-- Assumes nothing.
use mathlib.Core.Path.{◌≡◌, refl, ap}
use mathlib.Core.Bool.{Bool, true, false, cond, ◌&&◌}
use mathlib.Core.List.{List, [], ◌∷◌}
use Prim.Native.Nat.{ℕ, zero, suc, ◌<◌}
use native.Mathlib.Nat.{not-suc-le-zero, le_of_suc-le-suc}
use native.Mathlib.Omega.{arith}
use lib.Dec.{T, leb, eqb, eqb→eq, eqb_refl}
use lib.ListN.{length, get_or}
use Rattle.base.specs.Tests.{all}
use Rattle.base.proofs.Bools.{and_left, and_right}
use Rattle.op.specs.Names.{name_in, name_of}
use Rattle.op.specs.Opcodes.{Row, op, same as unmoved, table, row_of}
use Rattle.op.specs.declared.Shape.TheVariants.{None}
use Rattle.base.proofs.Keys.{in_range}
use Rattle.text.specs.Reading.{same, place, opcode_of}

pub same→eq : (s t : List ℕ) → T (same s t) → s ≡ t
same→eq [] [] h = refl
same→eq [] (y ∷ t) h = absurd h
same→eq (x ∷ s) [] h = absurd h
same→eq (x ∷ s) (y ∷ t) h =
    let p = eqb→eq x y (and_left (eqb x y) (same s t) h) in
    let q = same→eq s t (and_right (eqb x y) (same s t) h) in
    cc

pub same_refl : (s : List ℕ) → same s s ≡ true
same_refl [] = refl
same_refl (x ∷ s) = both (eqb x x) (same s s) (eqb_refl x) (same_refl s)
  where
    both : (a b : Bool) → T a → b ≡ true → (a && b) ≡ true
    both true b t e = e
    both false b t e = absurd t

pub yes_same : (s t : List ℕ) → same s t ≡ true → s ≡ t
yes_same s t e = same→eq s t (rw e tt)

-- no character of a name is below `0`
abbrev pub late : ℕ → Bool
late c = leb 48 c

pub names_late : (k : ℕ) → k < length table → T (all late (name_of k))
unfolding name_of row_of table
names_late k h = in_range (λ (j : ℕ). all late (name_of j)) 0 (length table) k (omega arith) (omega arith) tt

-- no name stands at two places
apart : List Row → Bool
apart [] = true
apart (o ∷ os) = eqb (place os (name_in o)) (length os) && apart os

names_apart : T (apart table)
unfolding table apart
names_apart = tt

abbrev default : Row
default = op "" None unmoved

-- where no name stands twice, the place of the i-th name is i
place_at : (l : List Row) → T (apart l) → (i : ℕ) → i < length l → place l (name_in (get_or l i default)) ≡ i
unfolding apart
place_at [] t i h = absurd (not-suc-le-zero h)
place_at (s ∷ l) t zero h = rw (same_refl (name_in s))
place_at (s ∷ l) t (suc k) h =
    let ih = place_at l (and_right (eqb (place l (name_in s)) (length l)) (apart l) t) k (le_of_suc-le-suc h) in
    let p = eqb→eq (place l (name_in s)) (length l) (and_left (eqb (place l (name_in s)) (length l)) (apart l) t) in
    go (same (name_in s) (name_in (get_or l k default))) refl ih p
  where
    go : (b : Bool) → same (name_in s) (name_in (get_or l k default)) ≡ b → place l (name_in (get_or l k default)) ≡ k
        → place l (name_in s) ≡ length l
        → cond b 0 (suc (place l (name_in (get_or l k default)))) ≡ suc k
    go true e ih p =
        let q = ap (place l) (yes_same (name_in s) (name_in (get_or l k default)) e) in
        let z : ⊥ = omega (arith, le_of_suc-le-suc h) in absurd z
    go false e ih p = ap suc ih

place_is : (l : List Row) (t : List ℕ) → place l t < length l → name_in (get_or l (place l t) default) ≡ t
place_is [] t h = absurd (not-suc-le-zero h)
place_is (s ∷ l) t h = go (same (name_in s) t) refl h (λ g. place_is l t g)
  where
    go : (b : Bool) → same (name_in s) t ≡ b → cond b 0 (suc (place l t)) < suc (length l)
        → (place l t < length l → name_in (get_or l (place l t) default) ≡ t)
        → name_in (get_or (s ∷ l) (cond b 0 (suc (place l t))) default) ≡ t
    go true e h f = yes_same (name_in s) t e
    go false e h f = f (le_of_suc-le-suc h)

-- a name is read back
pub named : (k : ℕ) → k < length table → opcode_of (name_of k) ≡ k
unfolding opcode_of name_of row_of
named k h = place_at table names_apart k h

-- and what is read as an opcode is its name
pub read : (t : List ℕ) → opcode_of t < length table → name_of (opcode_of t) ≡ t
unfolding opcode_of name_of row_of
read t h = place_is table t h
