-- A text is cut where its parts end, and two texts are the same byte by byte.
-- Assumes nothing.
use mathlib.Core.Path.{◌≡◌, refl, sym, ap, ◌∙◌}
use mathlib.Core.Bool.{Bool, true, false, cond, ◌&&◌}
use mathlib.Core.List.{List, [], ◌∷◌}
use Prim.Native.Nat.{ℕ, suc, ◌+◌, ◌-◌, ◌≤◌, ◌<◌}
use native.Mathlib.Numerals.{add-one}
use native.Mathlib.Omega.{arith}
use lib.Dec.{eqb, ltb}
use Rattle.std.specs.Option.{unwrap_or}
use Rattle.std.specs.List.{position_or_len}
use Rattle.std.specs.Cmp.Lexicographic.{pointwise}
use Rattle.std.specs.Prelude.{nat_eq, Some, None}
use lib.ListN.{length, get_or, take, drop, length-drop, drop_of_length-le}
use lib.Seq.{drop-cons, drop-drop, take_all}
use borrow.Author.Tests.{ltb-false, eqb-true, eqb-false, eq-eqb, ne_eqb}
use Rattle.text.specs.Parts.{cut, split}
use Rattle.text.specs.Reading.{same}
use Rattle.text.specs.Row.{dash}
use Rattle.readback.specs.Inner.{cut_at}

-- the first separator from a place on: here, behind, or none
pub cut_here : (s : ℕ) (t : List ℕ) (i : ℕ) → i < length t → get_or t i 0 ≡ s → cut_at s (drop i t) ≡ 0
cut_here s t i h e = rw (drop-cons t i 0 h, eq-eqb (get_or t i 0) s e)

pub cut_on : (s : ℕ) (t : List ℕ) (i : ℕ) → i < length t → (get_or t i 0 ≡ s → ⊥)
    → cut_at s (drop i t) ≡ suc (cut_at s (drop (i + 1) t))
cut_on s t i h n = rw (drop-cons t i 0 h, ne_eqb (get_or t i 0) s n, add-one i)

pub cut_end : (s : ℕ) (t : List ℕ) (i : ℕ) → length t ≤ i → cut_at s (drop i t) ≡ 0
cut_end s t i h = ap (cut_at s) (drop_of_length-le t {i = i} h)

pub cut_within : (s : ℕ) (t : List ℕ) → cut_at s t ≤ length t
cut_within s [] = omega arith
cut_within s (x ∷ t) = by (eqb x s) (cut_within s t)
  where
    by : (b : Bool) → cut_at s t ≤ length t → cond b 0 (suc (cut_at s t)) ≤ suc (length t)
    by true h = omega arith
    by false h = omega arith

-- the first part and the parts behind it, or the only part
pub split_cut : (s : ℕ) (t : List ℕ) → cut_at s t < length t
    → split s t ≡ take (cut_at s t) t ∷ split s (drop (suc (cut_at s t)) t)
unfolding split
split_cut s [] h = absurd (omega arith)
split_cut s (x ∷ t) h = by (eqb x s) h (λ g. split_cut s t g)
  where
    by : (b : Bool) → cond b 0 (suc (cut_at s t)) < suc (length t)
        → (cut_at s t < length t → split s t ≡ take (cut_at s t) t ∷ split s (drop (suc (cut_at s t)) t))
        → cut b x (split s t)
        ≡ take (cond b 0 (suc (cut_at s t))) (x ∷ t) ∷ split s (drop (suc (cond b 0 (suc (cut_at s t)))) (x ∷ t))
    by true h f = refl
    by false h f = ap (cut false x) (f (omega arith))

pub split_whole : (s : ℕ) (t : List ℕ) → length t ≤ cut_at s t → split s t ≡ t ∷ []
unfolding split
split_whole s [] h = refl
split_whole s (x ∷ t) h = by (eqb x s) h (λ g. split_whole s t g)
  where
    by : (b : Bool) → suc (length t) ≤ cond b 0 (suc (cut_at s t)) → (length t ≤ cut_at s t → split s t ≡ t ∷ [])
        → cut b x (split s t) ≡ (x ∷ t) ∷ []
    by true h f = absurd (omega arith)
    by false h f = ap (cut false x) (f (omega arith))

-- the rest of a text, as a part of it, and the rest behind a place of it
pub rest_is : (t : List ℕ) (from : ℕ) → take (length t - from) (drop from t) ≡ drop from t
rest_is t from = take_all (length t - from) (drop from t) (omega (arith, length-drop from t))

pub next_is : (t : List ℕ) (from n : ℕ) → drop n (drop from t) ≡ drop (from + n) t
next_is t from n = drop-drop n from t

-- two texts
pub same_lengths : (s t : List ℕ) → (length s ≡ length t → ⊥) → false ≡ same s t
same_lengths [] [] n = absurd (n refl)
same_lengths [] (y ∷ t) n = refl
same_lengths (x ∷ s) [] n = refl
same_lengths (x ∷ s) (y ∷ t) n = by (eqb x y) (same_lengths s t (λ e. n (ap suc e)))
  where
    by : (b : Bool) → false ≡ same s t → false ≡ (b && same s t)
    by true e = e
    by false e = refl

pub same_on : (s t : List ℕ) (i : ℕ) → i < length s → i < length t
    → same (drop i s) (drop i t) ≡ (eqb (get_or s i 0) (get_or t i 0) && same (drop (i + 1) s) (drop (i + 1) t))
same_on s t i h g = rw (drop-cons s i 0 h, drop-cons t i 0 g, add-one i)

pub same_end : (s t : List ℕ) (i : ℕ) → length s ≤ i → length t ≤ i → same (drop i s) (drop i t) ≡ true
same_end s t i h g = rw (drop_of_length-le s {i = i} h, drop_of_length-le t {i = i} g)

-- `-`
pub not_dash : (t : List ℕ) → (length t ≡ 1 → ⊥) → false ≡ same t dash
not_dash t n = same_lengths t dash n

pub is_dash : (t : List ℕ) → length t ≡ 1 → eqb (get_or t 0 0) 45 ≡ same t dash
is_dash [] e = absurd (omega arith)
is_dash (x ∷ []) e = by (eqb x 45)
  where
    by : (b : Bool) → b ≡ (b && true)
    by true = refl
    by false = refl
is_dash (x ∷ y ∷ t) e = absurd (omega arith)

-- the library's words for both
pub cut_is : (s : ℕ) (t : List ℕ) → position_or_len (λ (x : ℕ). nat_eq x s) t ≡ cut_at s t
cut_is s [] = refl
cut_is s (x ∷ t) = grind (arith, cut_is s t)

pub place_is : (s : ℕ) (t : List ℕ)
    → unwrap_or (cond (ltb (position_or_len (λ (x : ℕ). nat_eq x s) t) (length t))
    (Some (position_or_len (λ (x : ℕ). nat_eq x s) t)) None) (length t) ≡ cut_at s t
place_is s t = rw (cut_is s t) (by (ltb (cut_at s t) (length t)) refl)
  where
    by : (b : Bool) → ltb (cut_at s t) (length t) ≡ b
        → unwrap_or (cond b (Some (cut_at s t)) None) (length t) ≡ cut_at s t
    by true e = refl
    by false e = omega (arith, ltb-false (cut_at s t) (length t) e, cut_within s t)

pub same_is : (s t : List ℕ) → pointwise nat_eq s t ≡ same s t
same_is [] [] = refl
same_is [] (y ∷ t) = refl
same_is (x ∷ s) [] = refl
same_is (x ∷ s) (y ∷ t) = ap (λ (b : Bool). nat_eq x y && b) (same_is s t)

same_heads : (x y : ℕ) → nat_eq x y ≡ eqb y x
same_heads x y = by (eqb y x) refl
  where
    by : (b : Bool) → eqb y x ≡ b → eqb x y ≡ b
    by true e = eq-eqb x y (sym (eqb-true y x e))
    by false e = ne_eqb x y (λ z. eqb-false y x e (sym z))

pub same_back : (s t : List ℕ) → pointwise nat_eq s t ≡ same t s
same_back [] [] = refl
same_back [] (y ∷ t) = refl
same_back (x ∷ s) [] = refl
same_back (x ∷ s) (y ∷ t) =
    ap (λ (b : Bool). b && pointwise nat_eq s t) (same_heads x y) ∙ ap (λ (b : Bool). eqb y x && b) (same_back s t)
