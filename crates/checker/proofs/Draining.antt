-- What the starts, the visit of one offset and the loop over the list show.
-- Assumes nothing.
use Rattle.code.specs.Flow.{Flowing}
use Rattle.std.specs.Prelude.{Option, None, Some, Result, Ok, Err}
use mathlib.Core.Path.{◌≡◌, refl, sym, ap, subst, ◌∙◌}
use mathlib.Core.List.{List}
use mathlib.Core.Logic.{◌⊎◌, ⊎_elim, inl, inr}
use Prim.Native.Nat.{ℕ, suc, ◌+◌, ◌-◌, ◌*◌, ◌/◌, ◌%◌, ◌≤◌, ◌<◌}
use native.Mathlib.Omega.{arith}
use native.Mathlib.Decide.{ℕ_discrete}
use native.Mathlib.Nat.{not-suc-le-zero}
use lib.ListN.{length, get_or, set, drop, replicate, length-set}
use lib.Seq.{get_or-set_same, get_or-set_other}
use borrow.Author.Count.{below_more}
use Rattle.base.proofs.Bools.{clash}
use Rattle.base.proofs.Lists.{get_d_any}
use Rattle.op.specs.declared.Refusal.{Refusal}
use Rattle.code.specs.declared.Flow.{Flow}
use Rattle.code.specs.Flow.{flow_of}
use Rattle.code.specs.Depths.{Stands, Place, Kept, Derived, start}
use Rattle.code.proofs.Places.{stands_one}
use Rattle.checker.specs.declared.Reason.{Reason}
use Rattle.checker.specs.declared.lists.Ran.{Ran}
use Rattle.checker.specs.declared.visits.Passed.{Passed}
use Rattle.checker.specs.Cells.{cell, depth_in, held}
use Rattle.checker.specs.Promise.{Listed}
use Rattle.checker.specs.Reasons.{Because}
use Rattle.checker.specs.Inner.{Sound, KeptAt, place_mark, entry, Marks, Waits, Ready, Grew, GoesOn}
use Rattle.checker.specs.Inner.{in_hand, Took, PassesWith, Passes, Asked, Moved, Expanded, Draining, InHand, Followed}
use Rattle.checker.specs.Inner.{HasStarts, Begun, Loaded, Drained, Came}
use Rattle.checker.proofs.Holding.{depth_in_lem, in_depth, cell_in, all_are, held_le, held_none}
use Rattle.checker.proofs.Growing.{says_on, says_stuck, says_map, grew_none, grew_then, marks_on, goes_map}

-- what was respected stays so
kept_on : (last : ℕ) (s c c' : List ℕ) (o d : ℕ) → ((q e : ℕ) → depth_in c q ≡ Some e → depth_in c' q ≡ Some e)
    → KeptAt last s c o d → KeptAt last s c' o d
kept_on last s c c' o d keeps K f h =
    let N = K f h in
    record {
      falls = record { depth = N.falls.depth; leads = N.falls.leads; has = λ y. keeps _ _ (N.falls.has y) };
      jumps = λ j. (let J = N.jumps j in
          record { target = J.target; depth = J.depth; goes = J.goes; leads = J.leads; has = keeps _ _ J.has });
    }

-- what stands at an offset with a depth

pub deep_inside : (c : List ℕ) (at : ℕ) → cell c at ≤ 65535 → at < length c
deep_inside c at deep = cell_in c at (λ z. omega arith)

module _ {last : ℕ} {s : List ℕ} {at : ℕ} {x : Flowing} (is : x ≡ flow_of last at (drop at s)) where
  pub flow_stands : {f : Flow} → x ≡ Ok (Some f) → Stands last s at f
  flow_stands e = record { is = sym is ∙ e }

  pub flow_end : x ≡ Ok None → (f : Flow) → Stands last s at f → ⊥
  flow_end e f h = let i = h.is in clash cc

  pub flow_fault : {q : Refusal} → x ≡ Err q → (f : Flow) → Stands last s at f → ⊥
  flow_fault {q} e f h = let i = h.is in clash cc

module _ {last : ℕ} {s c w : List ℕ} {top at : ℕ} (R : Ready c w top) (deep : cell c at ≤ 65535) where
  pub expanded_none : ((f : Flow) → Stands last s at f → ⊥) → Expanded last s c c w w top at (Ok top)
  expanded_none n st = says_on (record { grew = grew_none R; sound = λ M S. S; has = λ f h. absurd (n f h) })

  pub expanded : {f : Flow} → Stands last s at f → (c' w' : List ℕ) (r : Result ℕ Reason)
      → Moved f c c' w w' top at (get_or c at 0) r → Expanded last s c c' w w' top at r
  expanded {f} h c' w' r M st =
      let e : cell c at ≡ get_or c at 0 = get_d_any c at 65536 0 (deep_inside c at deep) in
      let D = depth_in_lem c at (get_or c at 0) e (omega arith) in
      goes_map
      (λ marks S. (record { place = S.place at _ D; stands = h; derived = S.derived at _ D }, marks))
      (λ t G K g k. subst (λ (x : ℕ). Kept (depth_in c') g at x) (sym e)
      (subst (λ (x : Flow). Kept (depth_in c') x at (get_or c at 0)) (stands_one h k) K))
      (M last s st)

-- the starts

pub record Beginning (st c₀ c w₀ w : List ℕ) (k top : ℕ) : Type 0 where
  pub grew : Grew c₀ c w₀ w 0 top
  pub has : (j : ℕ) → j < k → depth_in c (get_or st (2 * j) 0) ≡ Some (get_or st (2 * j + 1) 0)
  pub sound : (last : ℕ) (s : List ℕ) → Listed last s st → Sound last s st c₀ → Sound last s st c

pub beginning_none : {c w : List ℕ} (st : List ℕ) → Ready c w 0 → Beginning st c c w w 0 0
beginning_none st R =
    record { grew = grew_none R; has = λ j l. absurd (not-suc-le-zero l); sound = λ last s L S. S }

module _ {st c₀ c w₀ w : List ℕ} {k top : ℕ} (A : Beginning st c₀ c w₀ w k top) (lk : 2 * k + 1 < length st)
    {o d : ℕ} (eo : o ≡ get_or st (2 * k) 0) (ed : d ≡ get_or st (2 * k + 1) 0) (c₁ w₁ : List ℕ) (x : Result ℕ Reason)
    (B : Asked c c₁ w w₁ top o d x) where
  from_start : (last : ℕ) (s : List ℕ) → Listed last s st → Place last s o × Derived last s st o d
  from_start last s L = (
    subst (Place last s) (sym eo) (L.good k lk).1,
    start (record { row = k; inside = lk; offset = sym eo; depth = sym ed }),
  )

  pub begun_stuck : {why : Reason} → x ≡ Err why → Begun st c₀ c₁ w₀ w₁ (Err why)
  begun_stuck {why} e last s =
      says_stuck (λ L S. (B last s st).stuck why e (from_start last s L) (A.sound last s L S))

  pub beginning_on : {t : ℕ} → x ≡ Ok t → Beginning st c₀ c₁ w₀ w₁ (k + 1) t
  beginning_on {t} e =
      let X = (B 0 st st).on t e in
      record {
        grew = grew_then A.grew X.grew;
        has = below_more (λ j. depth_in c₁ (get_or st (2 * j) 0) ≡ Some (get_or st (2 * j + 1) 0)) k
            (λ j l. X.grew.keeps (get_or st (2 * j) 0) _ (A.has j l))
            (ap (depth_in c₁) (sym eo) ∙ X.has ∙ ap Some ed);
        sound = λ last s L S. ((B last s st).on t e).sound (from_start last s L) (A.sound last s L S);
      }

pub begun_on : {st c₀ c w₀ w : List ℕ} {k top : ℕ} → Beginning st c₀ c w₀ w k top → length st ≤ 2 * k + 1
    → Begun st c₀ c w₀ w (Ok top)
begun_on {st} {c₀} {c} A l last s = says_on (record {
  grew = A.grew;
  sound = A.sound last s;
  has = λ o d b. sym (ap (depth_in c) b.offset) ∙ A.has b.row (let h = b.inside in omega arith)
      ∙ ap Some b.depth;
})

-- the loop over the list

pub draining_none : {last : ℕ} {s c w : List ℕ} {top : ℕ} → Loaded last s c w top → Draining last s c c w top 0
draining_none A = record {
  ready = A.ready;
  size = refl;
  marks = A.marks;
  closing = λ o d h. inr (A.waits o d h);
  weigh = omega (arith, A.weigh);
  keeps = λ o d h. h;
  sound = λ st S. S;
}

pub last_inside : {last : ℕ} {s c₀ c w : List ℕ} {top taken : ℕ} → Draining last s c₀ c w top taken → 0 < top
    → top - 1 < length w
last_inside {c} A l = omega (arith, A.ready.light, A.ready.size, held_le c)

-- the entry in a cell is off it
pub took : (w : List ℕ) (j : ℕ) → j < length w → Took w (set w j (get_or w j 0 - entry w j)) j (entry w j)
took w j l = record {
  is = refl;
  size = length-set w j (get_or w j 0 - entry w j);
  here = get_or-set_same w j (get_or w j 0 - entry w j) 0 l;
  there = λ i n. get_or-set_other w j i (get_or w j 0 - entry w j) 0 n;
}

-- the work goes on where another ended
pub draining_then : {last : ℕ} {s c₀ c c' w w' : List ℕ} {top t k n : ℕ} → Draining last s c₀ c w top k
    → Draining last s c c' w' t n → Draining last s c₀ c' w' t n
draining_then A B = record {
  ready = B.ready;
  size = B.size ∙ A.size;
  marks = B.marks;
  closing = B.closing;
  weigh = B.weigh;
  keeps = λ o d h. B.keeps o d (A.keeps o d h);
  sound = λ st S. B.sound st (A.sound st S);
}

-- it begins again from the cells at hand
pub draining_here : {last : ℕ} {s c₀ c w : List ℕ} {top k : ℕ} → Draining last s c₀ c w top k
    → Draining last s c c w top k
draining_here A = record {
  ready = A.ready;
  size = refl;
  marks = A.marks;
  closing = A.closing;
  weigh = A.weigh;
  keeps = λ o d h. h;
  sound = λ st S. S;
}

module _ {last : ℕ} {s c₀ c w w₁ : List ℕ} {j taken at : ℕ} (A : Draining last s c₀ c w (j + 1) taken)
    (T : Took w w₁ j at) where
  before : Ready c w (j + 1)
  before = A.ready

  -- what is left where the entry was
  left : (P : ℕ → ℕ → Type 0) (i : ℕ) → P (get_or w j 0 - entry w j) j → ((i ≡ j → ⊥) → P (get_or w i 0) i)
      → P (get_or w₁ i 0) i
  left P i here there = elim (ℕ_discrete i j) [
    | yes z ↦ subst (λ (y : ℕ). P (get_or w₁ y 0) y) (sym z) (subst (λ (x : ℕ). P x j) (sym T.here) here)
    | no n ↦ subst (λ (x : ℕ). P x i) (sym (T.there i n)) (there n)
  ]

  entry_other : (i : ℕ) → (i ≡ j → ⊥) → entry w₁ i ≡ entry w i
  entry_other i n = ap (λ (x : ℕ). x % place_mark) (T.there i n)

  same_marks : (i : ℕ) → get_or w₁ i 0 / place_mark ≡ get_or w i 0 / place_mark
  same_marks i = left (λ x y. x / place_mark ≡ get_or w y 0 / place_mark) i (omega arith) (λ n. refl)

  pub took_ready : Ready c w₁ j
  took_ready = record {
    size = T.size ∙ before.size;
    short = before.short;
    small = λ i. left (λ x y. x < 2 * place_mark) i (let h = before.small j in omega arith) (λ n. before.small i);
    deep = λ i l. subst (λ (x : ℕ). cell c x ≤ 65535) (sym (entry_other i (λ z. omega arith)))
        (before.deep i (omega arith));
    clear = λ i l. left (λ x y. x % place_mark ≡ 0) i (omega arith) (λ n. before.clear i (omega arith));
    light = omega (arith, before.light);
  }

  pub took_deep : cell c at ≤ 65535
  took_deep = subst (λ (x : ℕ). cell c x ≤ 65535) (sym T.is) (before.deep j (omega arith))

  pub took_marks : Marks last s w₁
  took_marks = marks_on A.marks same_marks

  module _ (c₁ w₂ : List ℕ) where
    expanded_stuck : {why : Reason} → Expanded last s c c₁ w₁ w₂ j at (Err why) → (st : List ℕ)
        → Sound last s st c₀ → Because last s st why
    expanded_stuck {why} E st S = (E st).stuck why refl took_marks (A.sound st S)

    module _ {t : ℕ} (E : Expanded last s c c₁ w₁ w₂ j at (Ok t)) where
      X : GoesOn last s s (Marks last s w₁) (λ y. KeptAt last s y at (cell c at)) c c₁ w₁ w₂ j t
      X = (E s).on t refl

      -- what waited before is visited now, or waits still
      waited : (o d : ℕ) → depth_in c o ≡ Some d → Waits w (j + 1) o → KeptAt last s c₁ o d ⊎ Waits w₂ t o
      waited o d h q = let l = q.1.0 in elim (ℕ_discrete q.0 j) [
        | yes z ↦ inl (
            let y : at ≡ o = T.is ∙ ap (entry w) (sym z) ∙ q.1.1 in
            let v : cell c at ≡ d = ap (cell c) y ∙ (in_depth c o d h).0 in
            subst (λ (p : ℕ). KeptAt last s c₁ p d) y (subst (λ (p : ℕ). KeptAt last s c₁ at p) v X.has))
        | no n ↦ inr (
          q.0,
          (
            let m = X.grew.more in omega arith,
            X.grew.stays q.0 (omega arith)
                ∙ entry_other q.0 n ∙ q.1.1,
          ),
        )
      ]

      draining_on : Draining last s c₀ c₁ w₂ t (taken + 1)
      draining_on = record {
        ready = X.grew.ready;
        size = X.grew.size ∙ A.size;
        marks = marks_on took_marks X.grew.marks;
        closing = λ o d h. ⊎_elim
            (λ g. ⊎_elim (λ k. inl (kept_on last s c c₁ o d X.grew.keeps k)) (waited o d g) (A.closing o d g)) inr
            (X.grew.waits o d h);
        weigh = omega (arith, X.grew.weigh, A.weigh);
        keeps = λ o d h. X.grew.keeps o d (A.keeps o d h);
        sound = λ st S. ((E st).on t refl).sound took_marks (A.sound st S);
      }

-- the code is followed from a place in hand

module _ {last : ℕ} {s c₀ c w : List ℕ} {top at k : ℕ} (A : InHand last s c₀ c w top at k) (c₁ w₁ : List ℕ)
    (r : Result Passed Reason) (E : Passes w₁ (λ x y. Expanded last s c c₁ w x top at y) r) where
  pub followed_stuck : {why : Reason} → r ≡ Err why → (st : List ℕ) → Sound last s st c₀ → Because last s st why
  followed_stuck e = expanded_stuck A.draining A.took c₁ w₁
      (subst (Passes w₁ (λ x y. Expanded last s c c₁ w x top at y)) e E)

  module _ {p : Passed} (ok : r ≡ Ok p) where
    passed : {n : Option ℕ} → p.next ≡ n → PassesWith w₁ p.top (λ x y. Expanded last s c c₁ w x top at y) (Ok n)
    passed e = subst (λ (n : Option ℕ). PassesWith w₁ p.top (λ x y. Expanded last s c c₁ w x top at y) (Ok n)) e
        (subst (Passes w₁ (λ x y. Expanded last s c c₁ w x top at y)) ok E)

    pub followed_rests : p.next ≡ None → Draining last s c₀ c₁ w₁ p.top (k + 1)
    followed_rests e = draining_on A.draining A.took c₁ w₁ (passed e)

    pub followed_holds : {o : ℕ} → p.next ≡ Some o → InHand last s c₀ c₁ w₁ p.top o (k + 1)
    followed_holds {o} e = record {
      list = in_hand w₁ p.top o;
      draining = draining_on A.draining A.took c₁ (in_hand w₁ p.top o) (passed e).0;
      took = (passed e).1;
    }

-- the place that is taken off the list is in hand
pub took_in_hand : {last : ℕ} {s c₀ c w w₁ : List ℕ} {top at k : ℕ} → Draining last s c₀ c w top k → 0 < top
    → Took w w₁ (top - 1) at → InHand last s c c w₁ (top - 1) at k
took_in_hand {last} {s} {c} {w} {top} {k} A l T =
    let e : top ≡ top - 1 + 1 = omega arith in
    record { list = w; draining = subst (λ (t : ℕ). Draining last s c c w t k) e (draining_here A); took = T }

module _ {last : ℕ} {s c₀ c w : List ℕ} {top k : ℕ} (A : Draining last s c₀ c w top k) (c₁ w₁ : List ℕ)
    (r : Result Ran Reason) (F : Followed last s c c₁ w₁ k r) where
  ran : {q : Result Ran Reason} → r ≡ q → Followed last s c c₁ w₁ k q
  ran e = subst (Followed last s c c₁ w₁ k) e F

  pub drained_stuck : {why : Reason} → r ≡ Err why → Drained last s c₀ c₁ (Err why)
  drained_stuck e = says_stuck (λ st S. ran e st (A.sound st S))

  pub drained_on : {n : Ran} → r ≡ Ok n → Draining last s c₀ c₁ w₁ n.top n.taken
  drained_on e = draining_then A (ran e).1

  -- what falls: the cells less the places visited
  pub drained_less : {n : Ran} → r ≡ Ok n → length c₁ - n.taken < length c - k
  drained_less e = let h = ran e in omega (arith, h.0, h.1.weigh, held_le c₁, h.1.size)

-- what is visited fits
pub draining_fits : {last : ℕ} {s c₀ c w : List ℕ} {top taken : ℕ} → Draining last s c₀ c w top taken
    → taken + top ≤ length c₀
draining_fits {c} A = omega (arith, A.weigh, held_le c, A.size)

pub drained : {last : ℕ} {s c₀ c w : List ℕ} {top taken : ℕ} → Draining last s c₀ c w top taken → top ≤ 0
    → Drained last s c₀ c (Ok taken)
drained {top} A z = says_on (record {
  keeps = A.keeps;
  sound = A.sound;
  kept = λ o d h. ⊎_elim (λ k. k) (λ q. absurd (let l = q.1.0 in omega arith)) (A.closing o d h);
  count = omega (arith, A.weigh);
})

-- the starts and all that follows

module _ {last : ℕ} {s st c w : List ℕ} (blank : c ≡ replicate (suc (length s)) 65536) (M : Marks last s w)
    (L : Listed last s st) (c₁ w₁ : List ℕ) (x : Result ℕ Reason) (B : Begun st c c₁ w w₁ x) where
  no_depth_lem : (o d : ℕ) → depth_in c o ≡ Some d → ⊥
  no_depth_lem o d h = let e = all_are (suc (length s)) 65536 c blank o in omega (arith, in_depth c o d h)

  blank_sound : Sound last s st c
  blank_sound = record {
    small = λ o. omega (arith, all_are (suc (length s)) 65536 c blank o);
    place = λ o d h. absurd (no_depth_lem o d h);
    derived = λ o d h. absurd (no_depth_lem o d h);
  }

  pub came_stuck : {why : Reason} → x ≡ Err why → (c' : List ℕ) → Came last s st c' (Err why)
  came_stuck {why} e c' = says_stuck ((B last s).stuck why e L blank_sound)

  module _ {top : ℕ} (e : x ≡ Ok top) where
    Y : GoesOn last s st (Listed last s st) (HasStarts st) c c₁ w w₁ 0 top
    Y = (B last s).on top e

    pub loaded : Loaded last s c₁ w₁ top
    loaded = record {
      ready = Y.grew.ready;
      marks = marks_on M Y.grew.marks;
      waits = λ o d h. ⊎_elim (λ g. absurd (no_depth_lem o d g)) (λ q. q) (Y.grew.waits o d h);
      weigh = omega (arith, Y.grew.weigh, ap held blank ∙ held_none (suc (length s)));
    }

    pub came : (c₂ : List ℕ) (r : Result ℕ Reason) → Drained last s c₁ c₂ r → Came last s st c₂ r
    came c₂ r D = says_map (λ k E.
        let S = E.sound st (Y.sound L blank_sound) in
        record {
          sound = S;
          assigns = record {
            places = λ o d h. (S.place o d h, (in_depth c₂ o d h).1);
            starts = λ o d b. E.keeps o d (Y.has o d b);
            kept = λ o d f h k. E.kept o d h f k;
          };
          count = E.count;
        }) (λ why because. because st (Y.sound L blank_sound)) D
