-- What antt can compute of paths and of the reading of the code: depths that some steps from the starts lead to,
-- offsets that reading comes to. The certificate of an assignment rests on it.
-- Assumes nothing.
use Rattle.code.specs.Flow.{Flowing}
use Rattle.op.specs.Effects.{by}
use Rattle.op.specs.declared.Effect.{Effect}
use Rattle.std.specs.Prelude.{Ok, Err, Some, None, Result, Option}
use mathlib.Core.Path.{◌≡◌, refl, sym, ap, subst, ◌∙◌}
use mathlib.Core.Bool.{Bool, true, false, cond, ◌||◌}
use mathlib.Core.List.Memᴰ
use mathlib.Core.List.{List, [], ◌∷◌, ◌++◌, Memᴰ}
use mathlib.Core.Logic.{⊎_elim}
use Prim.Native.Nat.{ℕ, zero, suc, ◌+◌, ◌*◌}
use native.Mathlib.Omega.{arith}
use lib.Dec.{T, eqb, eqb→eq}
use lib.ListN.{drop}
use Rattle.base.specs.Tests.{is_in}
use Rattle.op.specs.Depths.{landing, low_falling}
use Rattle.op.specs.declared.Refusal.{Refusal}
use Rattle.code.specs.declared.Flow.{Flow}
use Rattle.code.specs.declared.Goal.{Goal}
use Rattle.code.specs.declared.Goal.TheVariants.{Nowhere, To, Outside}
use Rattle.code.specs.Flow.{flow_of}
use Rattle.code.specs.Reading.{instructions_in, places_in}
use Rattle.code.specs.Depths.{Stands, Place, Begins, Derived, start, fall, jump}
use Rattle.checker.specs.Inner.{NoFault}

-- depths that paths of at most k steps lead to

-- a depth given to an offset
pub data Given : Type 0 where
  given : ℕ → ℕ → Given

abbrev pub lead : ℕ → Effect → Result ℕ Refusal
lead d c = landing low_falling d (Ok (by c.up c.down))

abbrev pub gives : ℕ → Result ℕ Refusal → List Given
gives q (Ok e) = given q e ∷ []
gives q (Err r) = []

abbrev pub leaps : ℕ → Effect → Goal → List Given
leaps d c Nowhere = []
leaps d c (To t) = gives t (lead d c)
leaps d c Outside = []

abbrev pub onward : ℕ → ℕ → Flowing → List Given
onward o d (Ok (Some f)) = cond f.falls (gives (o + f.size) (lead d f.net)) [] ++ leaps d f.taken f.goal
onward o d (Ok None) = []
onward o d (Err q) = []

abbrev pub steps : ℕ → List ℕ → List Given → List Given
steps last s [] = []
steps last s (given o d ∷ xs) = onward o d (flow_of last o (drop o s)) ++ steps last s xs

abbrev pub pairs : List ℕ → List Given
pairs [] = []
pairs (o ∷ []) = []
pairs (o ∷ (d ∷ st)) = given o d ∷ pairs st

abbrev pub reached : ℕ → List ℕ → List ℕ → ℕ → List Given
reached last s st zero = pairs st
reached last s st (suc k) = pairs st ++ steps last s (reached last s st k)

abbrev pub has : ℕ → ℕ → List Given → Bool
has o d [] = false
has o d (given q e ∷ xs) = cond (eqb o q) (cond (eqb d e) true (has o d xs)) (has o d xs)

pub has_in : (o d : ℕ) (xs : List Given) → T (has o d xs) → Memᴰ (given o d) xs
has_in o d [] t = absurd t
has_in o d (given q e ∷ xs) t = one (eqb o q) (eqb d e) refl refl (has_in o d xs) t
  where
    one : (a b : Bool) → eqb o q ≡ a → eqb d e ≡ b → (T (has o d xs) → Memᴰ (given o d) xs)
        → T (cond a (cond b true (has o d xs)) (has o d xs)) → Memᴰ (given o d) (given q e ∷ xs)
    one true true ea eb later t =
        let x : o ≡ q = eqb→eq o q (subst T (sym ea) tt) in
        let y : d ≡ e = eqb→eq d e (subst T (sym eb) tt) in
        let z : given o d ≡ given q e = cc in
        Memᴰ.head z
    one true false ea eb later t = Memᴰ.tail (later t)
    one false b ea eb later t = Memᴰ.tail (later t)

begins_more : (x y : ℕ) (st : List ℕ) (o d : ℕ) → Begins st o d → Begins (x ∷ (y ∷ st)) o d
begins_more x y st o d B =
    let e : 2 * suc B.row ≡ suc (suc (2 * B.row)) = omega arith in
    let g : 2 * suc B.row + 1 ≡ suc (suc (2 * B.row + 1)) = omega arith in
    record { row = suc B.row; inside = omega (arith, B.inside); offset = rw e B.offset; depth = rw g B.depth }

begins_in : (st : List ℕ) (o d : ℕ) → Memᴰ (given o d) (pairs st) → Begins st o d
begins_in [] o d m = absurd (Memᴰ.not-nil m)
begins_in (x ∷ []) o d m = absurd (Memᴰ.not-nil m)
begins_in (x ∷ (y ∷ st)) o d m = ⊎_elim here (λ j. begins_more x y st o d (begins_in st o d j)) (Memᴰ.cases_cons m)
  where
    here : given o d ≡ given x y → Begins (x ∷ (y ∷ st)) o d
    here e =
        let a : x ≡ o = cc in
        let b : y ≡ d = cc in
        record { row = 0; inside = omega arith; offset = a; depth = b }

gives_in : (t : ℕ) (x : Result ℕ Refusal) (q e : ℕ) → Memᴰ (given q e) (gives t x) → (t ≡ q) × (x ≡ Ok e)
gives_in t (Ok g) q e m = ⊎_elim (λ z. (let a : t ≡ q = cc in let b : Ok g ≡ Ok e = cc in (a, b)))
    (λ j. absurd (Memᴰ.not-nil j)) (Memᴰ.cases_cons m)
gives_in t (Err r) q e m = absurd (Memᴰ.not-nil m)

module _ {last : ℕ} (s st : List ℕ) where
  module _ (o d : ℕ) (D : Derived last s st o d) (f : Flow) (h : Stands last s o f) (q e : ℕ) where
    falls_derived : (b : Bool) → f.falls ≡ b
        → Memᴰ (given q e) (cond b (gives (o + f.size) (lead d f.net)) []) → Derived last s st q e
    falls_derived true fl m = let g = gives_in (o + f.size) (lead d f.net) q e m in fall D h fl g.1 g.0
    falls_derived false fl m = absurd (Memᴰ.not-nil m)

    leaps_derived : (x : Goal) → f.goal ≡ x → Memᴰ (given q e) (leaps d f.taken x) → Derived last s st q e
    leaps_derived Nowhere g m = absurd (Memᴰ.not-nil m)
    leaps_derived (To t) g m = let i = gives_in t (lead d f.taken) q e m in jump D h (g ∙ ap To i.0) i.1
    leaps_derived Outside g m = absurd (Memᴰ.not-nil m)

  onward_derived : (o d : ℕ) → Derived last s st o d → (x : Flowing) → flow_of last o (drop o s) ≡ x → (q e : ℕ)
      → Memᴰ (given q e) (onward o d x) → Derived last s st q e
  onward_derived o d D (Ok (Some f)) h q e m =
      let w : Stands last s o f = record { is = h } in
      ⊎_elim (falls_derived o d D f w q e f.falls refl) (leaps_derived o d D f w q e f.goal refl)
      (Memᴰ.append_cases (cond f.falls (gives (o + f.size) (lead d f.net)) []) m)
  onward_derived o d D (Ok None) h q e m = absurd (Memᴰ.not-nil m)
  onward_derived o d D (Err r) h q e m = absurd (Memᴰ.not-nil m)

  steps_derived : (xs : List Given) → ((o d : ℕ) → Memᴰ (given o d) xs → Derived last s st o d) → (q e : ℕ)
      → Memᴰ (given q e) (steps last s xs) → Derived last s st q e
  steps_derived [] all q e m = absurd (Memᴰ.not-nil m)
  steps_derived (given o d ∷ xs) all q e m =
      ⊎_elim (onward_derived o d (all o d (Memᴰ.head refl)) (flow_of last o (drop o s)) refl q e)
      (steps_derived xs (λ p g j. all p g (Memᴰ.tail j)) q e)
      (Memᴰ.append_cases (onward o d (flow_of last o (drop o s))) m)

  pub reached_derived : (k o d : ℕ) → Memᴰ (given o d) (reached last s st k) → Derived last s st o d
  reached_derived zero o d m = start (begins_in st o d m)
  reached_derived (suc k) o d m =
      ⊎_elim (λ j. start (begins_in st o d j)) (steps_derived (reached last s st k) (reached_derived k) o d)
      (Memᴰ.append_cases (pairs st) m)

-- the reading of the code, as tests

is_in_lem : (o : ℕ) (xs : List ℕ) → T (is_in o xs) → Memᴰ o xs
is_in_lem o [] t = absurd t
is_in_lem o (x ∷ xs) t = one (eqb o x) refl (is_in_lem o xs) t
  where
    one : (b : Bool) → eqb o x ≡ b → (T (is_in o xs) → Memᴰ o xs) → T (b || is_in o xs) → Memᴰ o (x ∷ xs)
    one true e later t = Memᴰ.head (eqb→eq o x (subst T (sym e) tt))
    one false e later t = Memᴰ.tail (later t)

-- it comes to o
abbrev pub comes_to : ℕ → List ℕ → ℕ → Bool
comes_to last s o = is_in o (places_in (instructions_in last s))

pub comes_place : (last : ℕ) (s : List ℕ) (o : ℕ) → T (comes_to last s o) → Place last s o
comes_place last s o t = record { is = is_in_lem o (places_in (instructions_in last s)) t }

-- it comes to the end
abbrev none_met : Option Refusal → Bool
none_met None = true
none_met (Some q) = false

abbrev pub ends : ℕ → List ℕ → Bool
ends last s = none_met (instructions_in last s).fault

pub ends_whole : (last : ℕ) (s : List ℕ) → T (ends last s) → NoFault last s
ends_whole last s t q A = subst (λ (x : Option Refusal). T (none_met x)) A.is t
