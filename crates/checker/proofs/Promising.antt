-- Laws of the promise: how a check keeps it, what callers get from it, and that equal inputs give equal answers and
-- cells.
-- Assumes nothing.
use Rattle.std.specs.Prelude.{Ok, Err, Result, Option}
use mathlib.Core.Path.{◌≡◌, refl, sym, ap, subst, ◌∙◌}
use mathlib.Core.Bool.{true, false, ◌&&◌}
use mathlib.Core.List.{List, ◌++◌}
use mathlib.Core.Logic.{◌⊎◌, ⊎_elim}
use Prim.Native.Nat.{ℕ, suc, ◌+◌, ◌*◌, ◌/◌, ◌≤◌, ◌<◌}
use native.Mathlib.Omega.{arith}
use native.Mathlib.Decide.{dec_le}
use native.Mathlib.Numerals.{add-one}
use lib.Dec.{leb}
use lib.ListN.{length, drop, take, replicate, take-append-drop}
use lib.Seq.{ext_get_or, length-take-le}
use borrow.Author.Tests.{leb-true}
use Rattle.base.proofs.Bools.{and_true, clash}
use Rattle.op.specs.Opcodes.{last_opcode}
use Rattle.op.specs.declared.Refusal.{Refusal}
use Rattle.op.specs.declared.Refusal.TheVariants.{TooLarge, Unsound, ShortDepths, BadStarts, NoDepths}
use Rattle.code.specs.Depths.{Faulty, Assigns, Impossible}
use Rattle.code.proofs.Assigning.{smallest_agree}
use Rattle.code.proofs.Counting.{counts_one}
use Rattle.code.proofs.Places.{fault_one}
use Rattle.builder.specs.declared.Builder.{Builder}
use Rattle.code.specs.Tables.{code_limit, start_cells, within}
use Rattle.checker.specs.declared.Assignment.{Assignment}
use Rattle.checker.specs.declared.Unmet.TheVariants.{Refused, Unsolved}
use Rattle.checker.specs.declared.Unmet.{Unmet}
use Rattle.checker.specs.Cells.{cell, depth_in}
use Rattle.checker.specs.Promise.{TooLong, NoRoom, Listed, Astray, Solution, Became, Zeroed, Accepts, Unless}
use Rattle.checker.specs.Promise.{stops, passes, Promise, built_sound, BuiltPromise}
use Rattle.checker.specs.Reasons.{Explains, answer_of}
use Rattle.checker.specs.Statements.{Same, PromiseOne, BuiltOne, ExplainOne}
use Rattle.checker.specs.Inner.{NoFault, Examined}
use Rattle.checker.proofs.Deepest.{greatest_one, assignment_one}
use Rattle.checker.proofs.Holding.{depth_in_lem, in_depth}
use Rattle.checker.proofs.Reasoning.{because_impossible, fault_not}

-- how a check keeps it

module _ (last : ℕ) (s st d w : List ℕ) where
  promise_long : 1048576 < length s → Promise last s st d d w w (Err TooLarge)
  unfolding Promise
  promise_long l = stops TooLarge (refl, l) (refl, refl, refl)

  module _ (short : length s ≤ 1048576) where
    long_not : (q : Refusal) → TooLong s q → ⊥
    long_not q h = omega (arith, h.1)

    promise_room : (length d ≤ length s) ⊎ (length w ≤ length s) → Promise last s st d d w w (Err ShortDepths)
    unfolding Promise
    promise_room l = passes long_not (stops ShortDepths (refl, l) (refl, refl, refl))

    module _ (room : length s < length d) (space : length s < length w) where
      room_not : (q : Refusal) → NoRoom s d w q → ⊥
      room_not q h = ⊎_elim (λ l. omega arith) (λ l. omega arith) h.1

      module _ (d' w' : List ℕ) (zeroed : Zeroed s w w') where
        promise_fault : (q : Refusal) → Faulty last s q → d' ≡ d → Promise last s st d d' w w' (Err q)
        unfolding Promise
        promise_fault q f e = passes long_not (passes room_not (stops q f (refl, e, zeroed)))

        module _ (whole : NoFault last s) where
          promise_starts : (q : Refusal) → Astray last s st q → d' ≡ d → Promise last s st d d' w w' (Err q)
          unfolding Promise
          promise_starts q h e = passes long_not (passes room_not (passes whole (stops q h (refl, e, zeroed))))

          module _ (listed : Listed last s st) where
            listed_not : (q : Refusal) → Astray last s st q → ⊥
            listed_not q h = h.1 listed

            pub promise_none : Impossible last s st → Became s d d' (replicate (suc (length s)) 65536)
                → Promise last s st d d' w w' (Err NoDepths)
            unfolding Promise
            promise_none n b = passes long_not (passes room_not (passes whole (passes listed_not
                (stops NoDepths (refl, n) (refl, b, zeroed)))))

            pub promise_some : (c : List ℕ) (a : Assignment) → Solution last s st c a → Became s d d' c
                → Promise last s st d d' w w' (Ok a)
            unfolding Promise
            promise_some c a S b = passes long_not (passes room_not (passes whole (passes listed_not
                (passes (λ q h. h.1 (depth_in c) S.smallest.assigns)
                (record { assignment = a; cells = c; answer = refl; solution = S; became = b; zeroed = zeroed })))))

-- and names a reason

module _ (last : ℕ) (s st d w : List ℕ) where
  pub explained_long : 1048576 < length s → Explains last s st d d w w (Err (Refused TooLarge))
  explained_long l = record { promise = promise_long last s st d w l; reasoned = λ e. clash cc }

  pub explained_room : length s ≤ 1048576 → (length d ≤ length s) ⊎ (length w ≤ length s)
      → Explains last s st d d w w (Err (Refused ShortDepths))
  explained_room short l = record { promise = promise_room last s st d w short l; reasoned = λ e. clash cc }

  -- what the work on the first cells leaves, and the rest of the slices
  module _ (short : length s ≤ 1048576) (room : length s < length d) (space : length s < length w) where
    became : (x c y : List ℕ) → c ≡ y → Became s x (c ++ drop (length s + 1) x) y
    became x c y e = ap (λ (z : List ℕ). z ++ drop (length s + 1) x) e
        ∙ ap (λ (i : ℕ). y ++ drop i x) (add-one (length s))

    pub explained_work : (c v : List ℕ) (r : Result Assignment Unmet) → Examined last s st (take (length s + 1) d) c r
        → v ≡ replicate (suc (length s)) 0
        → Explains last s st d (c ++ drop (length s + 1) d) w (v ++ drop (length s + 1) w) r
    explained_work c v (Ok a) h z = record {
      promise = promise_some last s st d w short room space _ _ (became w v _ z) h.0 h.1 c a h.2
          (became d c c refl);
      reasoned = tt;
    }
    explained_work c v (Err (Unsolved why)) h z = record {
      promise = promise_none last s st d w short room space _ _ (became w v _ z) h.0 h.1
          (because_impossible why h.2) (became d c _ h.3);
      reasoned = h.2;
    }
    explained_work c v (Err (Refused q)) h z =
        let e : c ++ drop (length s + 1) d ≡ d =
        ap (λ (x : List ℕ). x ++ drop (length s + 1) d) h.1 ∙ take-append-drop (length s + 1) d in
        ⊎_elim
        (λ f. record {
          promise = promise_fault last s st d w short room space _ _ (became w v _ z) q f e;
          reasoned = fault_not f;
        })
        (λ g. record {
          promise = promise_starts last s st d w short room space _ _ (became w v _ z) g.0 q g.1 e;
          reasoned = λ n. (let i = g.1.0 in clash cc);
        }) h.0

-- the lent part has a cell for each offset and the end
pub part_size : (d : List ℕ) (n : ℕ) → n < length d → length (take (n + 1) d) ≡ suc n
part_size d n l = length-take-le (n + 1) d (omega arith) ∙ add-one n

-- how a check of a builder's code keeps its own

-- sound counts are within what is lent
pub built_within : (b : Builder) (cl sl : ℕ) → built_sound b cl sl ≡ true
    → (b.core.code ≤ cl) × (b.starts * start_cells ≤ sl)
unfolding built_sound
built_within b cl sl e =
    let p = and_true (leb b.core.code cl && leb b.core.code code_limit) (within start_cells b.starts sl) e in
    let q = and_true (leb b.core.code cl) (leb b.core.code code_limit) p.0 in
    let rows = leb-true b.starts (sl / start_cells) p.1 in
    (leb-true _ _ q.0, omega arith)

module _ (b : Builder) (s st d w : List ℕ) where
  pub built_unsound : built_sound b (length s) (length st) ≡ false → BuiltPromise b s st d d w w (Err Unsound)
  unfolding BuiltPromise
  built_unsound e = stops Unsound (refl, e) (refl, refl, refl)

  pub built_used : built_sound b (length s) (length st) ≡ true → (d' w' : List ℕ) (r : Result Assignment Refusal)
      → Promise last_opcode (take b.core.code s) (take (b.starts * start_cells) st) d d' w w' r
      → BuiltPromise b s st d d' w w' r
  unfolding BuiltPromise
  built_used e d' w' r P = passes (λ q h. let z : ◌≡◌ {A = ℕ} 0 1 = cc (e, h.1) in omega arith) P

-- what callers get from it

-- what is behind a stop, where there was none
past : {P A : Refusal → Type 0} {B C : Type 0} → Unless P A B → ((q : Refusal) → A q → C)
    → (((q : Refusal) → P q → ⊥) → B → C) → C
past (stops q p a) no_way on = no_way q a
past (passes n b) no_way on = on n b

not_refused : {r : Result Assignment Refusal} {a : Assignment} {q : Refusal} → r ≡ Ok a → r ≡ Err q → ⊥
not_refused {r} {a} {q} e h = clash cc

-- what was accepted has no fault, and a solution
accepted_all : (last : ℕ) (s st d d' w w' : List ℕ) {r : Result Assignment Refusal} {a : Assignment} → Promise last s st d d' w w' r
    → r ≡ Ok a → NoFault last s × Accepts last s st d d' w w' r
unfolding Promise
accepted_all last s st d d' w w' P e =
    past P (λ q a. absurd (not_refused e a.0)) (λ n P.
    past P (λ q a. absurd (not_refused e a.0)) (λ n P.
    past P (λ q a. absurd (not_refused e a.0)) (λ whole P.
    past P (λ q a. absurd (not_refused e a.0)) (λ n P.
    past P (λ q a. absurd (not_refused e a.0)) (λ n P. (whole, P))))))

pub accepted : {last : ℕ} {s st d d' w w' : List ℕ} {r : Result Assignment Refusal} {a : Assignment} → Promise last s st d d' w w' r
    → r ≡ Ok a → Accepts last s st d d' w w' r
accepted P e = (accepted_all _ _ _ _ _ _ _ P e).1

pub accepted_whole : (last : ℕ) (s st d d' w w' : List ℕ) {r : Result Assignment Refusal} {a : Assignment}
    → Promise last s st d d' w w' r → r ≡ Ok a → NoFault last s
accepted_whole last s st d d' w w' P e = (accepted_all last s st d d' w w' P e).0

-- what is behind a stop that cannot be
passed : {P A : Refusal → Type 0} {B : Type 0} → Unless P A B → ((q : Refusal) → P q → ⊥) → B
passed (stops q p a) n = absurd (n q p)
passed (passes m b) n = b

-- past 10, 21, 1, 22 and 20, code is accepted when an assignment exists
pub accepted_when : {last : ℕ} {s st d d' w w' : List ℕ} {r : Result Assignment Refusal} → Promise last s st d d' w w' r
    → length s ≤ 1048576 → length s < length d → length s < length w → NoFault last s → Listed last s st
    → (a : ℕ → Option ℕ) → Assigns last s st a → Accepts last s st d d' w w' r
unfolding Promise
accepted_when {last} {s} {st} {d} P short room space whole listed a A =
    passed (passed (passed (passed (passed P (λ q h. omega (arith, h.1)))
    (λ q h. ⊎_elim (λ l. omega arith) (λ l. omega arith) h.1)) whole) (λ q h. h.1 listed)) (λ q h. h.1 a A)

-- equal inputs, equal answers

unless_one : {P A₁ A₂ : Refusal → Type 0} {B₁ B₂ C : Type 0} → ((p q : Refusal) → P p → P q → p ≡ q)
    → ((q : Refusal) → A₁ q → A₂ q → C) → (B₁ → B₂ → C)
    → Unless P A₁ B₁ → Unless P A₂ B₂ → C
unless_one {A₁} one both on (stops p x a) (stops q y b) = both q (subst A₁ (one p q x y) a) b
unless_one one both on (stops p x a) (passes n b) = absurd (n p x)
unless_one one both on (passes m a) (stops q y b) = absurd (m q y)
unless_one one both on (passes m a) (passes n b) = on a b

-- a refusal that is named is one
named_one : (x : Refusal) (p q : Refusal) → p ≡ x → q ≡ x → p ≡ q
named_one x p q e h = e ∙ sym h

-- two solutions are the same cells, with the same count and the same greatest depth

cell_one : (a b : List ℕ) (o : ℕ) → depth_in a o ≡ depth_in b o → cell a o ≤ 65536 → cell b o ≤ 65536
    → cell a o ≡ cell b o
cell_one a b o e l m = elim (dec_le (cell a o) 65535) [
  | yes g ↦ sym (in_depth b o (cell a o) (sym e ∙ depth_in_lem a o (cell a o) refl g)).0
  | no g ↦ elim (dec_le (cell b o) 65535) [
    | yes h ↦ (in_depth a o (cell b o) (e ∙ depth_in_lem b o (cell b o) refl h)).0
    | no h ↦ omega arith
  ]
]

module _ {last : ℕ} {s st c e : List ℕ} {a b : Assignment} (A : Solution last s st c a) (B : Solution last s st e b)
  where
    solution_cells : c ≡ e
    solution_cells = ext_get_or 65536 c e (A.size ∙ sym B.size)
        (λ o l. cell_one c e o (smallest_agree A.smallest B.smallest o) (A.others o) (B.others o))

    solution_one : a ≡ b
    solution_one =
        let same = smallest_agree A.smallest B.smallest in
        assignment_one (counts_one same A.count B.count) (greatest_one same A.greatest B.greatest)

pub promise_one : PromiseOne
unfolding Promise
promise_one last s st d d₁ d₂ w w₁ w₂ r₁ r₂ P Q =
    unless_one (λ p q x y. named_one TooLarge p q x.0 y.0) kept
    (unless_one (λ p q x y. named_one ShortDepths p q x.0 y.0) kept
    (unless_one (λ p q x y. fault_one x y) kept
    (unless_one (λ p q x y. named_one BadStarts p q x.0 y.0) kept
    (unless_one (λ p q x y. named_one NoDepths p q x.0 y.0) kept
    both)))) P Q
  where
    kept : {x y : List ℕ} (q : Refusal) → (r₁ ≡ Err q) × (d₁ ≡ x) × (w₁ ≡ y)
        → (r₂ ≡ Err q) × (d₂ ≡ x) × (w₂ ≡ y) → Same r₁ r₂ d₁ d₂ w₁ w₂
    kept q a b = (a.0 ∙ sym b.0, a.1 ∙ sym b.1, a.2 ∙ sym b.2)

    both : Accepts last s st d d₁ w w₁ r₁ → Accepts last s st d d₂ w w₂ r₂ → Same r₁ r₂ d₁ d₂ w₁ w₂
    both A B =
        let e = solution_cells A.solution B.solution in
        let h = solution_one A.solution B.solution in (
          A.answer ∙ ap Ok h ∙ sym B.answer,
          A.became ∙ ap (λ (c : List ℕ). c ++ drop (suc (length s)) d) e
              ∙ sym B.became,
          A.zeroed ∙ sym B.zeroed,
        )

pub built_one : BuiltOne
unfolding BuiltPromise
built_one b s st d d₁ d₂ w w₁ w₂ r₁ r₂ P Q =
    unless_one (λ p q x y. named_one Unsound p q x.0 y.0)
    (λ q x y. (x.0 ∙ sym y.0, x.1 ∙ sym y.1, x.2 ∙ sym y.2))
    (promise_one last_opcode (take b.core.code s) (take (b.starts * start_cells) st) d d₁ d₂ w w₁ w₂ r₁ r₂) P Q

pub explain_one : ExplainOne
explain_one last s st d d₁ d₂ w w₁ w₂ r₁ r₂ A B =
    promise_one last s st d d₁ d₂ w w₁ w₂ (answer_of r₁) (answer_of r₂) A.promise B.promise
