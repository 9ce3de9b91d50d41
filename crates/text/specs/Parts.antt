-- A text in parts between separators: "parted by tabs", "joined by commas" (R55).
-- Assumes nothing.
use Rattle.std.specs.Prelude.{Bool, true, false, List, [], ◌∷◌, ◌++◌, ℕ, eqb}

-- a character in front of parts: it begins a new part, or is the first of the first
abbrev pub cut : Bool → ℕ → List (List ℕ) → List (List ℕ)
cut true x ps = [] ∷ ps
cut false x [] = (x ∷ []) ∷ []
cut false x (p ∷ ps) = (x ∷ p) ∷ ps

-- the parts of a text between the separators s: one more than it has separators
unfoldable pub split : ℕ → List ℕ → List (List ℕ)
split s [] = [] ∷ []
split s (x ∷ t) = cut (eqb x s) x (split s t)

-- parts with a separator between each two
abbrev pub join : ℕ → List (List ℕ) → List ℕ
join s [] = []
join s (p ∷ []) = p
join s (p ∷ q ∷ ps) = p ++ (s ∷ join s (q ∷ ps))

-- parts with a separator in front of each
abbrev pub led : ℕ → List (List ℕ) → List ℕ
led s [] = []
led s (p ∷ ps) = s ∷ p ++ led s ps
