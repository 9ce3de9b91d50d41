-- Laws of reading a text byte by byte.
-- Assumes nothing.
use mathlib.Core.Path.{◌≡◌, refl}
use mathlib.Core.Bool.{Bool, true, false, ◌&&◌}
use mathlib.Core.List.{List, [], ◌∷◌}
use Prim.Native.Nat.{ℕ, suc, ◌+◌, ◌-◌, ◌*◌, ◌≤◌, ◌<◌}
use native.Mathlib.Numerals.{add-one}
use native.Mathlib.Omega.{arith}
use lib.ListN.{length, drop, get_or, drop_of_length-le}
use lib.Seq.{drop-cons}
use lib.Dec.{eqb}
use borrow.Author.Tests.{eq-eqb, ne_eqb, eqb-true, eqb-false, lt-leb, le-leb}
use Rattle.std.specs.List.{list_all}
use Rattle.base.specs.Tests.{all}
use Rattle.text.specs.Number.{natural, onto, value}
use Rattle.text.specs.Reading.{positive, negative, read_whole}
use Rattle.words.specs.declared.NumberError.TheVariants.{Large}
use Rattle.std.specs.Prelude.{Ok, Err}
use Rattle.words.specs.Numbers.{fitted, number_of, plus_of, minus_of, whole_of}

-- one byte more
pub onto_on : (t : List ℕ) (i v : ℕ) → i < length t → onto v (drop i t) ≡ onto (v * 10 + (get_or t i 0 - 48)) (drop (i + 1) t)
onto_on t i v h = rw (drop-cons t i 0) (rw add-one refl)

pub onto_end : (t : List ℕ) (i v : ℕ) → length t ≤ i → onto v (drop i t) ≡ v
onto_end t i v h = rw (drop_of_length-le t {i = i} h) refl

pub all_on : (f : ℕ → Bool) (t : List ℕ) (i : ℕ) → i < length t → all f (drop i t) ≡ (f (get_or t i 0) && all f (drop (i + 1) t))
all_on f t i h = rw (drop-cons t i 0) (rw add-one refl)

pub all_end : (f : ℕ → Bool) (t : List ℕ) (i : ℕ) → length t ≤ i → all f (drop i t) ≡ true
all_end f t i h = rw (drop_of_length-le t {i = i} h) refl

-- digits behind a number never make it smaller
pub onto_grows : (v : ℕ) (t : List ℕ) → v ≤ onto v t
onto_grows v [] = omega arith
onto_grows v (c ∷ t) = let g = onto_grows (v * 10 + (c - 48)) t in omega arith

pub stays_large : (v : ℕ) (t : List ℕ) → 18446744073709551615 < v → fitted (onto v t) ≡ Err Large
unfolding fitted
stays_large v t h = let g = onto_grows v t in let k : 18446744073709551615 < onto v t = omega arith in simp (lt-leb _ _ k)

pub fits_is : (n : ℕ) → n ≤ 18446744073709551615 → fitted n ≡ Ok n
unfolding fitted
fits_is n h = simp (le-leb _ _ h)

-- a whole number is a natural one, or a minus sign and one that is not 0
pub positive_read : (t : List ℕ) → plus_of (number_of t) ≡ whole_of (positive t)
unfolding plus_of number_of whole_of
positive_read t = by (natural t) refl
  where
    by : (b : Bool) → natural t ≡ b → plus_of (number_of t) ≡ whole_of (positive t)
    by true e = simp e
    by false e = simp e

pub negative_read : (t : List ℕ) → minus_of (number_of t) ≡ whole_of (negative t)
unfolding minus_of number_of whole_of fitted
negative_read t = by (natural t) refl (eqb (value t) 0) refl
  where
    by : (b : Bool) → natural t ≡ b → (z : Bool) → eqb (value t) 0 ≡ z → minus_of (number_of t) ≡ whole_of (negative t)
    by false e z f = simp e
    by true e true f = simp (e, f, eqb-true (value t) 0 f)
    by true e false f = let s : suc (value t - 1) ≡ value t = omega (arith, eqb-false (value t) 0 f) in simp (e, f, s)

pub signed_read : (t : List ℕ) → 0 < length t → get_or t 0 0 ≡ 45
    → minus_of (number_of (drop 1 t)) ≡ whole_of (read_whole t)
signed_read [] n e = let z : ⊥ = omega arith in absurd z
signed_read (c ∷ t) n e = simp (eq-eqb c 45 e) (negative_read t)

pub unsigned_read : (t : List ℕ) → (0 < length t → get_or t 0 0 ≡ 45 → ⊥)
    → plus_of (number_of t) ≡ whole_of (read_whole t)
unfolding plus_of number_of whole_of
unsigned_read [] n = refl
unsigned_read (c ∷ t) n = simp (ne_eqb c 45 (n (omega arith))) (positive_read (c ∷ t))

pub all_is : (f : ℕ → Bool) (t : List ℕ) → list_all f t ≡ all f t
all_is f [] = refl
all_is f (c ∷ t) = grind (arith, all_is f t)
