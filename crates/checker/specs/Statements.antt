-- That equal inputs give equal answers: R54. The promises of the checks are no equations,
-- so it is stated here; the proofs are the laws of proofs/Promising.antt. And that a reason is enough: R74; and that the
-- greatest depth is: R76.
-- Assumes nothing.
use Rattle.std.specs.Prelude.{◌≡◌, List, ℕ, Ok, Result}
use Rattle.op.specs.declared.Refusal.{Refusal}
use Rattle.code.specs.Depths.{Impossible}
use Rattle.builder.specs.declared.Builder.{Builder}
use Rattle.checker.specs.declared.Assignment.{Assignment}
use Rattle.checker.specs.declared.Reason.{Reason}
use Rattle.checker.specs.declared.Unmet.{Unmet}
use Rattle.checker.specs.Promise.{Promise, BuiltPromise}
use Rattle.checker.specs.Reasons.{Because, Explains, answer_of}
use Rattle.checker.specs.Paths.{Enough}

-- two answers, and the two slices that each leaves, are the same
abbrev pub Same : (r₁ r₂ : Result Assignment Refusal) (d₁ d₂ w₁ w₂ : List ℕ) → Type 0
Same r₁ r₂ d₁ d₂ w₁ w₂ = (r₁ ≡ r₂) × (d₁ ≡ d₂) × (w₁ ≡ w₂)

-- of `check` (R54)
abbrev pub PromiseOne : Type 0
PromiseOne =
    (last : ℕ) (s st d d₁ d₂ w w₁ w₂ : List ℕ) (r₁ r₂ : Result Assignment Refusal)
    → Promise last s st d d₁ w w₁ r₁ → Promise last s st d d₂ w w₂ r₂ → Same r₁ r₂ d₁ d₂ w₁ w₂

-- of `check_built` (R54)
abbrev pub BuiltOne : Type 0
BuiltOne =
    (b : Builder) (s st d d₁ d₂ w w₁ w₂ : List ℕ) (r₁ r₂ : Result Assignment Refusal)
    → BuiltPromise b s st d d₁ w w₁ r₁ → BuiltPromise b s st d d₂ w w₂ r₂ → Same r₁ r₂ d₁ d₂ w₁ w₂

-- of `explain`: "Which of several reasons it names is not fixed", all else is (R74)
abbrev pub ExplainOne : Type 0
ExplainOne =
    (last : ℕ) (s st d d₁ d₂ w w₁ w₂ : List ℕ) (r₁ r₂ : Result Assignment Unmet)
    → Explains last s st d d₁ w w₁ r₁ → Explains last s st d d₂ w w₂ r₂ → Same (answer_of r₁) (answer_of r₂) d₁ d₂ w₁ w₂

-- where a reason holds there is no assignment (R74)
abbrev pub ReasonEnough : Type 0
ReasonEnough = (last : ℕ) (s st : List ℕ) (why : Reason) → Because last s st why → Impossible last s st

-- a stack of the greatest depth that a check answers is enough for every path, and some path needs it (R76)
abbrev pub StackEnough : Type 0
StackEnough =
    (last : ℕ) (s st d d' w w' : List ℕ) (a : Assignment) → Promise last s st d d' w w' (Ok a)
    → Enough last s st a.greatest
