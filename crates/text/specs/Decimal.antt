-- Numbers in decimal: "a displacement and an i8 signed" (R55).
-- Assumes nothing.
use Rattle.std.specs.Prelude.{Bool, true, false, cond, List, [], ◌∷◌, ◌++◌, ℕ, zero, suc, ◌+◌, ◌/◌, ◌%◌, ltb, ℤ, pos, negsuc}

-- the digits of n, the most significant first, at most k of them
unfoldable pub up_to : ℕ → ℕ → List ℕ
up_to zero n = []
up_to (suc k) n = let more = up_to k (n / 10) in cond (ltb n 10) ((48 + n) ∷ []) (more ++ ((48 + n % 10) ∷ []))

-- n in ASCII digits, with no zero in front: it has no more than n + 1
unfoldable pub decimal : ℕ → List ℕ
decimal n = up_to (suc n) n

-- a whole number: a minus sign in front of one below zero
abbrev pub whole_text : ℤ → List ℕ
whole_text (pos n) = decimal n
whole_text (negsuc n) = 45 ∷ decimal (suc n)

-- the same by its sign and its magnitude
abbrev pub sign_text : Bool → ℕ → List ℕ
sign_text true n = 45 ∷ decimal n
sign_text false n = decimal n
