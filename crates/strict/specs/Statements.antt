-- What a strict check says of the old mode, R79, and that equal inputs give equal answers in either mode, R54. The proofs
-- are laws of proofs/Strictness.antt.
-- Assumes nothing.
use Rattle.std.specs.Prelude.{◌≡◌, List, ℕ, Ok, Err, Result}
use Rattle.op.specs.declared.Refusal.{Refusal}
use Rattle.op.specs.declared.Refusal.TheVariants.{NoDepths, TooFewValues}
use Rattle.checker.specs.declared.Assignment.{Assignment}
use Rattle.checker.specs.Promise.{Promise as OldPromise}
use Rattle.checker.specs.Statements.{Same}
use Rattle.strict.specs.declared.Mode.{Mode}
use Rattle.strict.specs.declared.Unfit.{Unfit}
use Rattle.strict.specs.Promise.{StrictPromise, Promise, Explains, answer_of}

-- "What strict mode accepts the old mode accepts, with the same depths, count and greatest depth" (R79)
abbrev pub StrictAccepted : Type 0
StrictAccepted =
    (last : ℕ) (s st d d' w w' : List ℕ) (a : Assignment) → StrictPromise last s st d d' w w' (Ok a)
    → OldPromise last s st d d' w w' (Ok a)

-- "what it refuses with another number than 26 the old mode refuses with the same", and leaves the same (R79)
abbrev pub StrictRefused : Type 0
StrictRefused =
    (last : ℕ) (s st d d' w w' : List ℕ) (q : Refusal) → ((o : ℕ) → q ≡ TooFewValues o → ⊥)
    → StrictPromise last s st d d' w w' (Err q) → OldPromise last s st d d' w w' (Err q)

-- of `check` in either mode (R54)
abbrev pub CheckOne : Type 0
CheckOne =
    (mode : Mode) (last : ℕ) (s st d d₁ d₂ w w₁ w₂ : List ℕ) (r₁ r₂ : Result Assignment Refusal)
    → Promise mode last s st d d₁ w w₁ r₁ → Promise mode last s st d d₂ w w₂ r₂ → Same r₁ r₂ d₁ d₂ w₁ w₂

-- of `explain`: "Which of several reasons it names is not fixed" for 23, all else is (R74)
abbrev pub ExplainOne : Type 0
ExplainOne =
    (mode : Mode) (last : ℕ) (s st d d₁ d₂ w w₁ w₂ : List ℕ) (r₁ r₂ : Result Assignment Unfit)
    → Explains mode last s st d d₁ w w₁ r₁ → Explains mode last s st d d₂ w w₂ r₂
    → Same (answer_of r₁) (answer_of r₂) d₁ d₂ w₁ w₂ × ((answer_of r₁ ≡ Err NoDepths → ⊥) → r₁ ≡ r₂)
