-- Numbers read from text: what a listing that is typed back in says.
-- Assumes nothing.
use Rattle.std.specs.Prelude.{Bool, false, not, ◌&&◌, List, [], ◌∷◌, ℕ, ◌+◌, ◌-◌, ◌*◌, leb, eqb}
use Rattle.base.specs.Tests.{all}

abbrev pub digit : ℕ → Bool
digit c = leb 48 c && leb c 57

-- digits, at least one, and no zero in front of another
abbrev pub natural : List ℕ → Bool
natural [] = false
natural (c ∷ []) = digit c
natural (c ∷ d ∷ t) = not (eqb c 48) && all digit (c ∷ d ∷ t)

-- the number that digits say, behind the digits of v
abbrev pub onto : ℕ → List ℕ → ℕ
onto v [] = v
onto v (c ∷ t) = onto (v * 10 + (c - 48)) t

abbrev pub value : List ℕ → ℕ
value t = onto 0 t
