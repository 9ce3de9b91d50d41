-- The hash of a list, byte by byte.
-- Assumes nothing.
use Rattle.std.proofs.Common.{◌≡◌, ℕ, zero, suc, ◌+◌, ◌<◌, ◌≤◌, List, [], ◌∷◌, ◌++◌, length, get_or, drop, sym, refl, ap, ◌∙◌, le_of_suc-le-suc, not-suc-le-zero, add-one}
use Rattle.fingerprint.specs.Fnv.{mixed, hash_from}

-- of two lists behind each other
pub hash_join : (hash : ℕ) (xs ys : List ℕ) → hash_from hash (xs ++ ys) ≡ hash_from (hash_from hash xs) ys
unfolding hash_from
hash_join hash [] ys = refl
hash_join hash (x ∷ xs) ys = hash_join (mixed hash x) xs ys

step : (hash : ℕ) (xs : List ℕ) (i : ℕ) → i < length xs
    → hash_from hash (drop i xs) ≡ hash_from (mixed hash (get_or xs i 0)) (drop (suc i) xs)
unfolding hash_from
step hash [] i h = absurd (not-suc-le-zero h)
step hash (x ∷ xs) zero h = refl
step hash (x ∷ xs) (suc i) h = step hash xs i (le_of_suc-le-suc h)

-- of what is left from a place on
pub hash_step : (hash : ℕ) (xs : List ℕ) (i : ℕ) → i < length xs
    → hash_from hash (drop i xs) ≡ hash_from (mixed hash (get_or xs i 0)) (drop (i + 1) xs)
hash_step hash xs i h =
    step hash xs i h ∙ ap (λ (n : ℕ). hash_from (mixed hash (get_or xs i 0)) (drop n xs)) (sym (add-one i))

pub hash_end : (hash : ℕ) (xs : List ℕ) (i : ℕ) → length xs ≤ i → hash_from hash (drop i xs) ≡ hash
unfolding hash_from
hash_end hash [] zero h = refl
hash_end hash [] (suc i) h = refl
hash_end hash (x ∷ xs) zero h = absurd (not-suc-le-zero h)
hash_end hash (x ∷ xs) (suc i) h = hash_end hash xs i (le_of_suc-le-suc h)
