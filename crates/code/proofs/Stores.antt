-- Bytes at the front of a list, and a lent part of a slice that comes back.
-- Assumes nothing.
use mathlib.Core.Path.{◌≡◌, refl, ap, ◌∙◌}
use mathlib.Core.List.{List, [], ◌∷◌, ◌++◌, append_assoc, append-nil}
use Prim.Native.Nat.{ℕ, zero, suc, ◌+◌, ◌-◌, ◌*◌, ◌/◌, ◌%◌, ◌≤◌, ◌<◌}
use native.Mathlib.Numerals.{add-one}
use native.Mathlib.Nat.{zero-add, le_refl}
use native.Mathlib.Omega.{arith}
use borrow.Rule.Slice.PartMut.{put_mid}
use lib.ListN.{length, take, drop, get_or, set, length-append, length-drop, drop_of_length-le}
use lib.Seq.{sets, sets-eq, take-append_seam, drop-append_seam, drop-append-add, drop-drop, take_all, take-suc}
use lib.Seq.{length-take-le}
use Rattle.code.specs.Bytes.{front, names_bytes}
use Rattle.code.proofs.Inverse.{length_names}

module _ (p xs l : List ℕ) (h : length p + length xs ≤ length l) where
  length_front : length (front p l) ≡ length l
  length_front = simp (length-append, length-drop) (omega arith)

  -- xs stored right behind p, which stands at the front
  pub front_more : sets (front p l) (length p) xs ≡ front (p ++ xs) l
  front_more =
      sets-eq xs (front p l) (length p) (rw length_front h)
      ∙ simp (take-append_seam, drop-append-add, drop-drop, length-append)

-- xs stored at the very front
pub sets_front : (xs l : List ℕ) → length xs ≤ length l → sets l 0 xs ≡ front xs l
sets_front xs l h = sets-eq xs l 0 (omega arith) ∙ simp zero-add

-- one cell more of s, at the front
put_next : {A : Type 0} (s d : List A) (i : ℕ) (x : A) → i < length s → length s ≤ length d → x ≡ get_or s i x
    → set (front (take i s) d) i x ≡ front (take (suc i) s) d
put_next [] d i x l room e = absurd (omega (arith, l))
put_next (y ∷ s) [] i x l room e = absurd (omega (arith, room))
put_next {A} (y ∷ s) (z ∷ d) zero x l room e = ap (λ (c : A). c ∷ d) e
put_next {A} (y ∷ s) (z ∷ d) (suc i) x l room e =
    ap (λ (r : List A). y ∷ r) (put_next s d i x (omega (arith, l)) (omega (arith, room)) e)

pub front_next : {A : Type 0} (s d : List A) (i : ℕ) (x : A) → i < length s → length s ≤ length d → x ≡ get_or s i x
    → set (front (take i s) d) i x ≡ front (take (i + 1) s) d
front_next s d i x l room e = rw (add-one i) (put_next s d i x l room e)

-- a part from a to the end is lent, and comes back with xs at its front
module _ (a : ℕ) (xs l : List ℕ) (h : a + length xs ≤ length l) where
  tail : take (length l - a) (drop a l) ≡ drop a l
  tail = take_all (length l - a) (drop a l) (rw length-drop (le_refl (length l - a)))

  pub lent : put_mid a (length l - a) l (front xs (take (length l - a) (drop a l))) ≡ take a l ++ front xs (drop a l)
  lent = rw (
    tail,
    drop_of_length-le (drop a l) {i = length l - a} (rw length-drop (le_refl (length l - a))),
    append-nil,
  )

-- where p stands at the front already
pub lent_behind : (p xs l : List ℕ) → take (length p) (front p l) ++ front xs (drop (length p) (front p l))
    ≡ front (p ++ xs) l
lent_behind p xs l = simp (take-append_seam, drop-append_seam, drop-drop, length-append, append_assoc)

pub names_append : (ns ms : List ℕ) → names_bytes (ns ++ ms) ≡ names_bytes ns ++ names_bytes ms
names_append [] ms = refl
names_append (n ∷ ns) ms = ap (λ (r : List ℕ). n % 256 ∷ n / 256 ∷ r) (names_append ns ms)

module _ (ns out : List ℕ) (i : ℕ) (l : i < length ns) (room : 2 * length ns ≤ length out) where
  passed : length (names_bytes (take i ns)) ≡ 2 * i
  passed = simp (length_names, length-take-le i ns (omega arith))

  -- one name more, as its two bytes
  pub names_more : set (set (front (names_bytes (take i ns)) out) (2 * i) (get_or ns i 0 % 256)) (2 * i + 1) (get_or ns i 0 / 256)
      ≡ front (names_bytes (take (i + 1) ns)) out
  names_more =
      rw (add-one, add-one, ← passed, take-suc ns i 0 l, names_append)
      (front_more (names_bytes (take i ns)) (get_or ns i 0 % 256 ∷ get_or ns i 0 / 256 ∷ []) out (omega (arith, passed)))
