-- Laws of `put`: a lent part of a table that comes back with something at its front, and what the used part then is.
-- Assumes nothing.
use mathlib.Core.Path.{◌≡◌, ap, ◌∙◌}
use mathlib.Core.List.{List, ◌++◌, append_assoc}
use Prim.Native.Nat.{ℕ, ◌+◌, ◌-◌, ◌≤◌}
use native.Mathlib.Nat.{zero-add}
use native.Mathlib.Omega.{arith}
use borrow.Rule.Slice.PartMut.{put_mid}
use lib.ListN.{length, take, drop, length-take, length-drop, length-append}
use lib.Seq.{drop-drop, take_at, length-take-le}
use Rattle.code.specs.Bytes.{front}
use Rattle.code.proofs.Stores.{lent}
use Rattle.code.specs.Tables.{put}

-- a part from a to the end is lent, and comes back with xs at its front
pub put_lent : (a : ℕ) (xs l : List ℕ) → a + length xs ≤ length l
    → put_mid a (length l - a) l (front xs (take (length l - a) (drop a l))) ≡ put a xs l
unfolding put
put_lent a xs l h = lent a xs l h ∙ rw (drop-drop, ← append_assoc)

-- the length of such a part
pub length_lent : (a : ℕ) (l : List ℕ) → length (take (length l - a) (drop a l)) ≡ length l - a
length_lent a l = simp (length-take, length-drop) (omega arith)

-- at the very front nothing is lent
pub put_front : (xs l : List ℕ) → front xs l ≡ put 0 xs l
unfolding put
put_front xs l = simp zero-add

-- the used part

-- what is used stays
pub take_put : (a : ℕ) (xs l : List ℕ) → a ≤ length l → take a (put a xs l) ≡ take a l
unfolding put
take_put a xs l h = rw append_assoc (take_at (take a l) (xs ++ drop (a + length xs) l) a (length-take-le a l h))

-- and then what was put
pub take_put_all : (a : ℕ) (xs l : List ℕ) → a ≤ length l → take (a + length xs) (put a xs l) ≡ take a l ++ xs
unfolding put
take_put_all a xs l h =
    take_at (take a l ++ xs) (drop (a + length xs) l) (a + length xs)
    (length-append (take a l) xs ∙ ap (λ (n : ℕ). n + length xs) (length-take-le a l h))

-- nothing grows or shrinks
pub length_put : (a : ℕ) (xs l : List ℕ) → a + length xs ≤ length l → length (put a xs l) ≡ length l
unfolding put
length_put a xs l h =
    let e = length-append (take a l ++ xs) (drop (a + length xs) l) in
    let f = length-append (take a l) xs in
    let t = length-take-le a l (omega arith) in
    let d = length-drop (a + length xs) l in
    omega arith
