-- Splitting is the inverse of joining, both ways.
-- Assumes nothing.
use mathlib.Core.Path.{◌≡◌, refl, sym, ap, ◌∙◌}
use mathlib.Core.Bool.{Bool, true, false, not}
use mathlib.Core.List.{List, [], ◌∷◌, ◌++◌, append-nil}
use Prim.Native.Nat.{ℕ}
use lib.Dec.{T, eqb}
use borrow.Author.Tests.{eqb-true, eq-eqb}
use Rattle.base.specs.Tests.{all}
use Rattle.base.proofs.Bools.{and_left, and_right, T_false, clash}
use Rattle.text.specs.Parts.{cut, split, join, led}

-- no character of the text is s
abbrev pub other : ℕ → ℕ → Bool
other s x = not (eqb x s)

abbrev pub Free : ℕ → List ℕ → Type 0
Free s t = T (all (other s) t)

abbrev pub AllFree : ℕ → List (List ℕ) → Type 0
AllFree s [] = Unit {0}
AllFree s (p ∷ ps) = Free s p × AllFree s ps

-- a part up to a separator, and the last part
pub split_onto : (s : ℕ) (p t : List ℕ) → Free s p → split s (p ++ (s ∷ t)) ≡ p ∷ split s t
unfolding split
split_onto s [] t f = rw (eq-eqb s s refl)
split_onto s (x ∷ p) t f =
    let e = T_false (eqb x s) (and_left (other s x) (all (other s) p) f) in
    rw (e, split_onto s p t (and_right (other s x) (all (other s) p) f))

pub split_last : (s : ℕ) (p : List ℕ) → Free s p → split s p ≡ p ∷ []
unfolding split
split_last s [] f = refl
split_last s (x ∷ p) f =
    let e = T_false (eqb x s) (and_left (other s x) (all (other s) p) f) in
    rw (e, split_last s p (and_right (other s x) (all (other s) p) f))

pub split_join : (s : ℕ) (p : List ℕ) (ps : List (List ℕ)) → AllFree s (p ∷ ps) → split s (join s (p ∷ ps)) ≡ p ∷ ps
split_join s p [] f = split_last s p f.0
split_join s p (q ∷ ps) f = split_onto s p (join s (q ∷ ps)) f.0 ∙ ap (λ (l : List (List ℕ)). p ∷ l) (split_join s q ps f.1)

-- a character in front, joined
cut_join : (s x : ℕ) (b : Bool) → eqb x s ≡ b → (ps : List (List ℕ)) → (ps ≡ [] → ⊥)
    → join s (cut b x ps) ≡ x ∷ join s ps
cut_join s x true e [] n = absurd (n refl)
cut_join s x true e (p ∷ ps) n = ap (λ (y : ℕ). y ∷ join s (p ∷ ps)) (sym (eqb-true x s e))
cut_join s x false e [] n = refl
cut_join s x false e (p ∷ []) n = refl
cut_join s x false e (p ∷ q ∷ ps) n = refl

none : {p : List ℕ} {ps : List (List ℕ)} → p ∷ ps ≡ [] → ⊥
none {p} {ps} e = clash cc

cut_some : (b : Bool) (x : ℕ) (ps : List (List ℕ)) → cut b x ps ≡ [] → ⊥
cut_some true x ps e = none e
cut_some false x [] e = none e
cut_some false x (p ∷ ps) e = none e

pub split_some : (s : ℕ) (t : List ℕ) → split s t ≡ [] → ⊥
unfolding split
split_some s [] e = none e
split_some s (x ∷ t) e = cut_some (eqb x s) x (split s t) e

pub join_split : (s : ℕ) (t : List ℕ) → join s (split s t) ≡ t
unfolding split
join_split s [] = refl
join_split s (x ∷ t) =
    cut_join s x (eqb x s) refl (split s t) (split_some s t) ∙ ap (λ (l : List ℕ). x ∷ l) (join_split s t)

pub join_led : (s : ℕ) (p : List ℕ) (ps : List (List ℕ)) → join s (p ∷ ps) ≡ p ++ led s ps
join_led s p [] = sym (append-nil p)
join_led s p (q ∷ ps) = ap (λ (l : List ℕ). p ++ (s ∷ l)) (join_led s q ps)
