-- Laws of strict mode: the first cell that holds too little is the lowest instruction with too little; how a check in a
-- mode keeps its promise, and what its answer says of the old mode.
-- Assumes nothing.
use Rattle.std.specs.Prelude.{Result, Ok, Err, Some}
use mathlib.Core.Path.{◌≡◌, refl, sym, ap, subst, ◌∙◌}
use mathlib.Core.List.{List, ◌++◌}
use mathlib.Core.Logic.{⊎_elim, inl, inr}
use Prim.Native.Nat.{ℕ, suc, ◌<◌}
use native.Mathlib.Decide.{dec_lt}
use native.Mathlib.Omega.{arith}
use lib.ListN.{length, get_or, drop, replicate, length-append, get_or-append}
use lib.Seq.{drop-append_seam}
use Rattle.base.proofs.Bools.{clash}
use Rattle.op.specs.Needs.{need_of}
use Rattle.op.specs.declared.Refusal.{Refusal}
use Rattle.op.specs.declared.Refusal.TheVariants.{NoDepths, TooFewValues}
use Rattle.op.proofs.Needed.{need_small}
use Rattle.code.specs.Flow.{flow_of}
use Rattle.code.proofs.Assigning.{smallest_agree}
use Rattle.code.proofs.Places.{stands_size}
use Rattle.checker.specs.declared.Assignment.{Assignment}
use Rattle.checker.specs.declared.Unmet.{Unmet}
use Rattle.checker.specs.declared.Unmet.TheVariants.{Refused, Unsolved}
use Rattle.checker.specs.Cells.{cell, depth_in}
use Rattle.checker.specs.Inner.{NoFault}
use Rattle.checker.specs.Promise.{Became, Accepts, Unless, stops, passes, Promise as OldPromise}
use Rattle.checker.specs.Reasons.{Explains as OldExplains}
use Rattle.checker.proofs.Holding.{depth_in_lem, in_depth, depth_same}
use Rattle.checker.proofs.Reasoning.{OfReading, fault_is}
use Rattle.checker.proofs.Promising.{accepted, accepted_whole, promise_one}
use Rattle.checker.proofs.Solutions.{stands_by}
use Rattle.strict.specs.declared.Mode.{Mode}
use Rattle.strict.specs.declared.Mode.TheVariants.{Net, Strict}
use Rattle.strict.specs.declared.Unfit.{Unfit}
use Rattle.strict.specs.declared.Unfit.TheVariants as J
use Rattle.strict.specs.Promise.{Short, Lowest, Stricter, Promise, TooFew, answer_of, Reasoned, Explains}
use Rattle.strict.specs.Statements.{StrictAccepted, StrictRefused, CheckOne, ExplainOne}
use Rattle.strict.specs.Inner.{EnoughBefore, Judged, unfit_of}

-- where cells hold enough no instruction is short
not_short : {last : ℕ} {s : List ℕ} (e : List ℕ) (n o : ℕ) → EnoughBefore s e n → o < n → Short last s (depth_in e) o → ⊥
not_short {last} {s} e n o h l S = omega (arith, h o l, (in_depth e o S.depth S.has).0, S.less)

-- what was accepted

module _ {last : ℕ} {s st d e w w' : List ℕ} {x : Result Assignment Refusal} (A : Accepts last s st d e w w' x) where
  size : length A.cells ≡ suc (length s)
  size = A.solution.size

  pub accepted_room : length s < length e
  accepted_room = omega (arith, ap length A.became, length-append A.cells (drop (suc (length s)) d), size)

  -- the cells of the code and its end are the solution's
  same_cell : (o : ℕ) → o < length s → cell e o ≡ cell A.cells o
  same_cell o l = ap (λ (x : List ℕ). get_or x o 65536) A.became
      ∙ get_or-append A.cells (drop (suc (length s)) d) 65536 o (omega (arith, size))

  rest : drop (suc (length s)) e ≡ drop (suc (length s)) d
  rest = ap (λ (x : List ℕ). drop (suc (length s)) x) A.became
      ∙ ap (λ (n : ℕ). drop n (A.cells ++ drop (suc (length s)) d)) (sym size)
      ∙ drop-append_seam A.cells (drop (suc (length s)) d)

  became_again : (c d' : List ℕ) → Became s e d' c → Became s d d' c
  became_again c d' b = b ∙ ap (λ (x : List ℕ). c ++ x) rest

  -- a cell that holds too little is an instruction's
  short_at : NoFault last s → (o : ℕ) → o < length s → cell e o < need_of (get_or s o 0) → Short last s (depth_in e) o
  short_at whole o l h =
      let small = need_small (get_or s o 0) in
      let has = depth_in_lem e o (cell e o) refl (omega arith) in
      let at = A.solution.smallest.assigns.places o (cell e o)
      (sym (depth_same A.cells e o (same_cell o l)) ∙ has) in
      let stands = stands_by s o (flow_of last o (drop o s)) refl whole at.0 l in
      record { place = at.0; flow = stands.0; stands = stands.1; depth = cell e o; has = has; less = h }

  judged_stricter : NoFault last s → (a : Assignment) (d' : List ℕ) (r : Result Assignment Unfit) → Judged s e d' a r
      → Stricter last s d e d' (Ok a) (answer_of r)
  judged_stricter whole a d' r = ⊎_elim
      (λ j. inl (
        λ o S. not_short e (length s) o j.0 (omega (arith, stands_size S.stands)) S,
        ap answer_of j.1,
        j.2,
      ))
      (λ j. inr (
        j.0,
        record {
          holds = short_at whole j.0 j.1.first.inside j.1.first.less;
          least = λ q S. elim (dec_lt q j.0) [
            | yes l ↦ absurd (not_short e j.0 q j.1.first.before l S)
            | no l ↦ omega arith
          ];
        },
        ap answer_of j.1.answer,
        became_again (replicate (suc (length s)) 65536) d' j.1.blank,
      ))

  -- the depth of the first cell that holds too little is the smallest assignment's
  too_few : (o : ℕ) → o < length s → cell e o < need_of (get_or s o 0) → TooFew last s st o (cell e o) (need_of (get_or s o 0))
  too_few o l h = record {
    assignment = depth_in A.cells;
    smallest = A.solution.smallest;
    has = depth_in_lem A.cells o (cell e o) (sym (same_cell o l)) (omega (arith, need_small (get_or s o 0)));
    needs = refl;
    less = h;
  }

-- two answers that are the same

-- an answer without its reason
abbrev Answer : Type 0
Answer = Result Assignment Refusal

refused_one : {p q : Refusal} → ◌≡◌ {A = Answer} (Err p) (Err q) → p ≡ q
refused_one {p} {q} e = cc

not_both : {a : Assignment} {q : Refusal} → ◌≡◌ {A = Answer} (Ok a) (Err q) → ⊥
not_both {a} {q} e = clash cc

-- the old mode never refuses by 26

no_way : {P A : Refusal → Type 0} {B : Type 0} → Unless P A B → ((q : Refusal) → P q → A q → ⊥) → (B → ⊥) → ⊥
no_way (stops q p a) here behind = here q p a
no_way (passes n b) here behind = behind b

not_of_reading : {q : Refusal} {o : ℕ} → OfReading q → q ≡ TooFewValues o → ⊥
not_of_reading {q} {o} R e = ⊎_elim (λ i. clash cc) (λ i. clash cc) R.1

not_strict : (last : ℕ) (s st d d' w w' : List ℕ) (o : ℕ) → OldPromise last s st d d' w w' (Err (TooFewValues o)) → ⊥
unfolding OldPromise
not_strict last s st d d' w w' o P =
    no_way P (λ q p a. (let e = p.0 in let h = a.0 in clash cc)) (λ P.
    no_way P (λ q p a. (let e = p.0 in let h = a.0 in clash cc)) (λ P.
    no_way P (λ q p a. not_of_reading (fault_is p) (sym (refused_one a.0))) (λ P.
    no_way P (λ q p a. (let e = p.0 in let h = a.0 in clash cc)) (λ P.
    no_way P (λ q p a. (let e = p.0 in let h = a.0 in clash cc)) (λ A. (let h = A.answer in clash cc))))))

-- how a check in a mode keeps its promise

module _ {last : ℕ} {s st d e w w' : List ℕ} where
  -- what the old mode does not accept
  err_reasoned : (u : Unmet) → OldExplains last s st d e w w' (Err u) → Reasoned last s st (Err (unfit_of u))
  err_reasoned (Refused q) X = (
    X.reasoned,
    λ o z. not_strict last s st d e w w' o
        (subst (λ (p : Refusal). OldPromise last s st d e w w' (Err p)) z X.promise),
  )
  err_reasoned (Unsolved why) X = X.reasoned

  err_promise : (mode : Mode) (u : Unmet) → OldExplains last s st d e w w' (Err u)
      → Promise mode last s st d e w w' (answer_of (Err (unfit_of u)))
  err_promise Net (Refused q) X = X.promise
  err_promise Net (Unsolved why) X = X.promise
  err_promise Strict (Refused q) X =
      record { old = Err q; left = e; promise = X.promise; stricter = (refl, refl) }
  err_promise Strict (Unsolved why) X =
      record { old = Err NoDepths; left = e; promise = X.promise; stricter = (refl, refl) }

  module _ {x : Result Assignment Unmet} (X : OldExplains last s st d e w w' x) where
    pub by_err : (mode : Mode) (u : Unmet) → x ≡ Err u → Explains mode last s st d e w w' (Err (unfit_of u))
    by_err mode u is =
        let Y = subst (OldExplains last s st d e w w') is X in
        record { promise = err_promise mode u Y; reasoned = err_reasoned u Y }

    -- what it accepts
    module _ (a : Assignment) (is : x ≡ Ok a) where
      told : OldExplains last s st d e w w' (Ok a)
      told = subst (OldExplains last s st d e w w') is X

      old : Accepts last s st d e w w' (Ok a)
      old = accepted told.promise refl

      pub roomy : length s < length e
      roomy = accepted_room old

      module _ (d' : List ℕ) (r : Result Assignment Unfit) (J : Judged s e d' a r) where
        strict_reasoned : Reasoned last s st r
        strict_reasoned = ⊎_elim
            (λ i. subst (Reasoned last s st) (sym i.1) tt)
            (λ i. subst (Reasoned last s st) (sym i.1.answer) (too_few old i.0 i.1.first.inside i.1.first.less)) J

        strict_explains : Explains Strict last s st d d' w w' r
        strict_explains = record {
          promise = record {
            old = Ok a;
            left = e;
            promise = told.promise;
            stricter = judged_stricter old (accepted_whole last s st d e w w' told.promise refl) a d' r J;
          };
          reasoned = strict_reasoned;
        }

        pub by_strict : (mode : Mode) → mode ≡ Strict → Explains mode last s st d d' w w' r
        by_strict mode m = rw m strict_explains

-- what a strict answer says of the old mode

pub strict_accepted : StrictAccepted
strict_accepted last s st d d' w w' a S = by S.old S.stricter S.promise
  where
    by : (x : Result Assignment Refusal) → Stricter last s d S.left d' x (Ok a) → OldPromise last s st d S.left w w' x
        → OldPromise last s st d d' w w' (Ok a)
    by (Err q) h P = absurd (not_both h.0)
    by (Ok b) h P = ⊎_elim (λ i. rw (i.2, i.1) P) (λ i. absurd (not_both i.2)) h

pub strict_refused : StrictRefused
strict_refused last s st d d' w w' q other S = by S.old S.stricter S.promise
  where
    by : (x : Result Assignment Refusal) → Stricter last s d S.left d' x (Err q) → OldPromise last s st d S.left w w' x
        → OldPromise last s st d d' w w' (Err q)
    by (Err p) h P = rw (h.1, h.0) P
    by (Ok b) h P = ⊎_elim (λ i. absurd (not_both (sym i.1))) (λ i. absurd (other i.0 (refused_one i.2))) h

-- equal inputs, equal answers

lowest_one : (P : ℕ → Type 0) (o q : ℕ) → Lowest P o → Lowest P q → o ≡ q
lowest_one P o q A B = omega (arith, A.least q B.holds, B.least o A.holds)

module _ (last : ℕ) (s d e : List ℕ) {d₁ d₂ : List ℕ} where
  stricter_one : (x r₁ r₂ : Result Assignment Refusal) → Stricter last s d e d₁ x r₁ → Stricter last s d e d₂ x r₂
      → (r₁ ≡ r₂) × (d₁ ≡ d₂)
  stricter_one (Err q) r₁ r₂ p q' = (p.0 ∙ sym q'.0, p.1 ∙ sym q'.1)
  stricter_one (Ok a) r₁ r₂ p q = both p q
    where
      both : Stricter last s d e d₁ (Ok a) r₁ → Stricter last s d e d₂ (Ok a) r₂ → (r₁ ≡ r₂) × (d₁ ≡ d₂)
      both (inl x) (inl y) = (x.1 ∙ sym y.1, x.2 ∙ sym y.2)
      both (inl x) (inr y) = absurd (x.0 y.0 y.1.holds)
      both (inr x) (inl y) = absurd (y.0 x.0 x.1.holds)
      both (inr x) (inr y) = (
        x.2 ∙ ap (λ (o : ℕ). Err (TooFewValues o)) (lowest_one _ x.0 y.0 x.1 y.1) ∙ sym y.2,
        x.3 ∙ sym y.3,
      )

pub check_one : CheckOne
check_one Net last s st d d₁ d₂ w w₁ w₂ r₁ r₂ P Q = promise_one last s st d d₁ d₂ w w₁ w₂ r₁ r₂ P Q
check_one Strict last s st d d₁ d₂ w w₁ w₂ r₁ r₂ P Q =
    let old = promise_one last s st d P.left Q.left w w₁ w₂ P.old Q.old P.promise Q.promise in
    let B : Stricter last s d P.left d₂ P.old r₂ = rw (old.0, old.1) Q.stricter in
    let new = stricter_one last s d P.left P.old r₁ r₂ P.stricter B in
    (new.0, new.1, old.2)

some_one : {x y : ℕ} → Some x ≡ Some y → x ≡ y
some_one {x} {y} e = cc

named_one : {o p : ℕ} → ◌≡◌ {A = Answer} (Err (TooFewValues o)) (Err (TooFewValues p)) → o ≡ p
named_one {o} {p} e = cc

module _ (last : ℕ) (s st : List ℕ) where
  depth_one : {o p x y k n : ℕ} → o ≡ p → TooFew last s st o x k → TooFew last s st p y n → x ≡ y
  depth_one {o} {p} {x} {y} {k} {n} e A B =
      some_one (sym A.has ∙ smallest_agree A.smallest B.smallest o ∙ ap B.assignment e ∙ B.has)

  few_one : {o p x y k n : ℕ} → o ≡ p → TooFew last s st o x k → TooFew last s st p y n
      → ◌≡◌ {A = Result Assignment Unfit} (Err (J.TooFew o x k)) (Err (J.TooFew p y n))
  few_one {o} {p} {x} {y} {k} {n} e A B =
      let needs : k ≡ n = A.needs ∙ ap (λ (q : ℕ). need_of (get_or s q 0)) e ∙ sym B.needs in
      rw (e, depth_one e A B, needs) refl

  -- one answer has one reason, but for 23
  verdict_one : (x y : Result Assignment Unfit) → Reasoned last s st x → Reasoned last s st y → answer_of x ≡ answer_of y
      → (answer_of x ≡ Err NoDepths → ⊥) → x ≡ y
  verdict_one (Ok a) (Ok b) R S e n = cc
  verdict_one (Ok a) (Err (J.Refused q)) R S e n = absurd (not_both e)
  verdict_one (Ok a) (Err (J.Unsolved why)) R S e n = absurd (not_both e)
  verdict_one (Ok a) (Err (J.TooFew o depth need)) R S e n = absurd (not_both e)
  verdict_one (Err (J.Refused p)) (Ok b) R S e n = absurd (not_both (sym e))
  verdict_one (Err (J.Refused p)) (Err (J.Refused q)) R S e n = cc
  verdict_one (Err (J.Refused p)) (Err (J.Unsolved why)) R S e n = absurd (n e)
  verdict_one (Err (J.Refused p)) (Err (J.TooFew o depth need)) R S e n = absurd (R.1 o (refused_one e))
  verdict_one (Err (J.Unsolved why)) y R S e n = absurd (n refl)
  verdict_one (Err (J.TooFew o depth need)) (Ok b) R S e n = absurd (not_both (sym e))
  verdict_one (Err (J.TooFew o depth need)) (Err (J.Refused q)) R S e n = absurd (S.1 o (refused_one (sym e)))
  verdict_one (Err (J.TooFew o depth need)) (Err (J.Unsolved why)) R S e n = absurd (n e)
  verdict_one (Err (J.TooFew o depth need)) (Err (J.TooFew p other more)) R S e n = few_one (named_one e) R S

pub explain_one : ExplainOne
explain_one mode last s st d d₁ d₂ w w₁ w₂ r₁ r₂ P Q =
    let same = check_one mode last s st d d₁ d₂ w w₁ w₂ (answer_of r₁) (answer_of r₂) P.promise Q.promise in
    (same, verdict_one last s st r₁ r₂ P.reasoned Q.reasoned same.0)
