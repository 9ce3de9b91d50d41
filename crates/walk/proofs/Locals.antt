-- The locals of a walk by hand, in front of the rest of its context: each has its place and, beside it, that the
-- place is freed at exit.
-- Assumes nothing.
use mathlib.Core.List.{List, ◌∷◌}
use Prim.Native.Nat.{ℕ}
use seplogic.Ra.Ura.{Ura}
use base.Fraction.{full_share}
use mir.Syntax.{Ty}
use mir.Val.{Val}
use base.Fml.{fat, froom, fdies}
use types.Kit.{Item, ‵}

module _ {M : Type 1} {𝓤 : Ura M} where
  -- a local with no value
  abbrev pub no : Ty → ℕ → List (Item 𝓤) → List (Item 𝓤)
  no τ l Γ = ‵ (froom τ l 0) ∷ ‵ (fdies τ l) ∷ Γ

  -- and one with a value
  abbrev pub has : Ty → ℕ → Val → List (Item 𝓤) → List (Item 𝓤)
  has τ l v Γ = ‵ (fat full_share τ l 0 v) ∷ ‵ (fdies τ l) ∷ Γ
