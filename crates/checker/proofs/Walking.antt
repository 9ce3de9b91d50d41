-- What the walks over the code and the starts show.
-- Assumes nothing.
use Rattle.code.specs.Decode.{instr}
use Rattle.code.specs.Decode.{Step}
use Rattle.std.specs.Prelude.{Ok, Err, Some, None}
use mathlib.Core.Path.{◌≡◌, refl, sym, ap, subst, ◌∙◌}
use mathlib.Core.Bool.{true, false, true≢false, false≢true}
use mathlib.Core.List.{List}
use mathlib.Core.Logic.{◌⊎◌, ⊎_elim, inl, inr}
use Prim.Native.Nat.{ℕ, suc, ◌+◌, ◌*◌, ◌%◌, ◌≤◌, ◌<◌}
use native.Mathlib.Omega.{arith}
use native.Mathlib.Decide.{dec_lt}
use native.Mathlib.Nat.{not-suc-le-zero}
use lib.Dec.{leb}
use lib.ListN.{length, drop, get_or, set, length-set}
use borrow.Author.Tests.{leb-true, leb-false}
use Rattle.op.specs.declared.Operand.{Operand}
use Rattle.op.specs.declared.Refusal.{Refusal}
use Rattle.code.specs.declared.Flow.{Flow}
use Rattle.code.specs.Decode.{decode, size_in}
use Rattle.code.specs.Flow.{flow_by, flow_of}
use Rattle.code.specs.Depths.{Stands, Place}
use Rattle.code.proofs.Moving.{flow_op, flow_end, flow_refused}
use Rattle.code.proofs.Places.{stands_size, stands_no_fault, ends_over, place_first, place_next, place_le, between}
use Rattle.code.proofs.Places.{faulty_at, whole_at}
use Rattle.checker.specs.Promise.{Listed}
use Rattle.checker.specs.Inner.{place_mark, Marks, Ready, Sized, stop_of, NoFault, Marked, Walked, StartsTold}
use Rattle.checker.proofs.Holding.{set_at}

-- sizes

module _ {last : ℕ} {s : List ℕ} {at : ℕ} where
  pub stands_sized : {f : Flow} → Stands last s at f → Sized last s at f.size
  stands_sized {f} h = record { stands = λ n. (f, (h, refl)); none = λ y. absurd (omega (arith, stands_size h)) }

  sized : (k : ℕ) (o : Operand) (z : ℕ) → decode last at (drop at s) ≡ Ok (Some (instr k o z)) → Sized last s at z
  sized k o z e = stands_sized {f = flow_by (at + z) (length s) k o z} (record { is = sym (flow_op last at s k o z e) })

  sized_fault : (q : Refusal) → decode last at (drop at s) ≡ Err q → Sized last s at 0
  sized_fault q e = record {
    stands = λ n. absurd (n refl);
    none = λ y f h. stands_no_fault h (sym (flow_refused last at s q e));
  }

  sized_end : decode last at (drop at s) ≡ Ok None → Sized last s at 0
  sized_end e = record {
    stands = λ n. absurd (n refl);
    none = λ y f h. omega (arith, stands_size h, ends_over last s at (sym (flow_end last at s e)));
  }

  sized_by : (x : Step) → decode last at (drop at s) ≡ x → Sized last s at (size_in x)
  sized_by (Ok (Some i)) e = sized i.opcode i.operand i.size e
  sized_by (Ok None) e = sized_end e
  sized_by (Err q) e = sized_fault q e

  -- the size that the walk goes by
  pub sized_in_code : {r : ℕ} → r ≡ size_in (decode last at (drop at s)) → Sized last s at r
  sized_in_code e = subst (Sized last s at) (sym e) (sized_by (decode last at (drop at s)) refl)

  module _ {z : ℕ} (Z : Sized last s at z) (n : z ≡ 0 → ⊥) where
    pub sized_in : (0 < z) × (at + z ≤ length s)
    sized_in = let g = Z.stands n in let e = g.1.1 in let h = stands_size g.1.0 in (omega arith, omega arith)

    next_place : Place last s at → Place last s (at + z)
    next_place p = let g = Z.stands n in place_next p g.1.0 (ap (λ (x : ℕ). at + x) g.1.1)

    -- a place before the next one is at or before this
    next_after : Place last s at → (o : ℕ) → Place last s o → o < at + z → (o < at) ⊎ (o ≡ at)
    next_after p o q l = let g = Z.stands n in let e = g.1.1 in between p g.1.0 q (omega arith)

-- the walk for faults: it is at a place, and the places before it are marked
pub record Marking (last : ℕ) (s w : List ℕ) (at : ℕ) : Type 0 where
  pub size : length w ≡ suc (length s)
  pub here : Place last s at
  pub inside : at ≤ length s
  pub place : (o : ℕ) → Place last s o → o < at → get_or w o 0 ≡ place_mark
  pub only : (o : ℕ) → (get_or w o 0 ≡ 0) ⊎ ((get_or w o 0 ≡ place_mark) × Place last s o)

pub marking_none : {last : ℕ} {s w : List ℕ} → length w ≡ suc (length s) → ((o : ℕ) → get_or w o 0 ≡ 0)
    → Marking last s w 0
marking_none size h = record {
  size = size;
  here = place_first;
  inside = omega arith;
  place = λ o p l. absurd (not-suc-le-zero l);
  only = λ o. inl (h o);
}

module _ {last : ℕ} {s w : List ℕ} {at : ℕ} (A : Marking last s w at) where
  pub at_inside : at < length w
  at_inside = omega (arith, A.inside, A.size)

  put : (P : ℕ → ℕ → Type 0) (o : ℕ) → P place_mark at → ((o ≡ at → ⊥) → P (get_or w o 0) o)
      → P (get_or (set w at place_mark) o 0) o
  put = set_at w at place_mark 0 at_inside

  put_only : (o : ℕ)
      → (get_or (set w at place_mark) o 0 ≡ 0) ⊎ ((get_or (set w at place_mark) o 0 ≡ place_mark) × Place last s o)
  put_only o = put (λ x y. (x ≡ 0) ⊎ ((x ≡ place_mark) × Place last s y)) o (inr (refl, A.here)) (λ n. A.only o)

  put_place : (o : ℕ) → Place last s o → (o < at) ⊎ (o ≡ at) → get_or (set w at place_mark) o 0 ≡ place_mark
  put_place o p k = put (λ x y. x ≡ place_mark) o refl (λ n. ⊎_elim (A.place o p) (λ e. absurd (n e)) k)

  pub marking_on : {z : ℕ} → Sized last s at z → (z ≡ 0 → ⊥) → Marking last s (set w at place_mark) (at + z)
  marking_on Z n = record {
    size = length-set w at place_mark ∙ A.size;
    here = next_place Z n A.here;
    inside = (sized_in Z n).1;
    place = λ o p l. put_place o p (next_after Z n A.here o p l);
    only = put_only;
  }

  -- where the walk comes to the end it met no fault, and marked all places
  whole : flow_of last at (drop at s) ≡ Ok None → NoFault last s × Marked last s (set w at place_mark)
  whole e = (
    whole_at A.here e,
    record {
      place = λ o p. put_place o p (let h = place_le p in elim (dec_lt o at)
          [ yes a ↦ inl a | no a ↦ inr (let i = ends_over last s at e in omega (arith, A.inside)) ]);
      only = put_only;
    },
  )

  pub walked : Sized last s at 0 → (x : Step) → decode last at (drop at s) ≡ x
      → Walked last s (set w at place_mark) (stop_of x)
  walked Z (Ok (Some i)) e =
      absurd (Z.none refl _ (record { is = sym (flow_op last at s i.opcode i.operand i.size e) }))
  walked Z (Ok None) e = whole (sym (flow_end last at s e))
  walked Z (Err q) e = faulty_at A.here (sym (flow_refused last at s q e))

-- marks, as the list finds them

module _ {last : ℕ} {s w : List ℕ} (A : Marked last s w) where
  pub marked_marks : Marks last s w
  marked_marks = record {
    place = λ o p. omega (arith, A.place o p);
    only = λ o l. ⊎_elim (λ e. absurd (omega arith)) (λ e. e.1) (A.only o);
  }

  pub marked_ready : {c : List ℕ} → length w ≡ length c → length c ≤ place_mark → Ready c w 0
  marked_ready size short = record {
    size = size;
    short = short;
    small = λ j. ⊎_elim (λ e. omega arith) (λ e. omega (arith, e.0)) (A.only j);
    deep = λ j l. absurd (not-suc-le-zero l);
    clear = λ j l. ⊎_elim (λ e. omega arith) (λ e. omega (arith, e.0)) (A.only j);
    light = omega arith;
  }

-- the start list, by the marks

-- start j is good
abbrev pub Good : List ℕ → List ℕ → ℕ → Type 0
Good w st j = (get_or st (2 * j + 1) 0 ≤ 65535) × (leb place_mark (get_or w (get_or st (2 * j) 0) 0) ≡ true)

pub starts_good : {w st : List ℕ} {k : ℕ} → length st % 2 ≡ 0 → length st ≤ 2 * k + 1
    → ((j : ℕ) → j < k → Good w st j) → StartsTold w st true
starts_good even l h last s M = record {
  yes = λ e. record {
    even = even;
    good = λ j g. (let i = h j (omega arith) in (i.0, M.only _ (leb-true _ _ i.1)));
  };
  no = λ e. absurd (true≢false e);
}

pub starts_bad : {w st : List ℕ} → ((last : ℕ) (s : List ℕ) → Marks last s w → Listed last s st → ⊥)
    → StartsTold w st false
starts_bad n last s M = record { yes = λ e. absurd (false≢true e); no = λ e L. n last s M L }

pub starts_unmarked : (w st : List ℕ) (k o : ℕ) → 2 * k + 1 < length st → o ≡ get_or st (2 * k) 0
    → leb place_mark (get_or w o 0) ≡ false → StartsTold w st false
starts_unmarked w st k o l e b = starts_bad (λ last s M L.
    let h = M.place o (subst (Place last s) (sym e) (L.good k l).1) in
    omega (arith, leb-false place_mark (get_or w o 0) b))
