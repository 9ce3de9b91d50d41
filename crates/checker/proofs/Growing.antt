-- Laws of the list of places still to visit: what one more place does to it, pieces of work one behind the other, and
-- the answers of such work.
-- Assumes nothing.
use Rattle.std.specs.Prelude.{Option, None, Some, Result, Ok, Err}
use mathlib.Core.Path.{◌≡◌, refl, sym, ap, subst, ◌∙◌}
use mathlib.Core.List.{List}
use mathlib.Core.Logic.{◌⊎◌, ⊎_elim, inl, inr}
use Prim.Native.Nat.{ℕ, suc, ◌+◌, ◌*◌, ◌/◌, ◌%◌, ◌≤◌, ◌<◌}
use native.Mathlib.Omega.{arith}
use native.Mathlib.Decide.{ℕ_discrete}
use lib.ListN.{length, get_or, set, length-set}
use lib.Seq.{get_or-set_same, get_or-set_other}
use Rattle.base.proofs.Bools.{clash}
use Rattle.checker.specs.declared.Reason.{Reason}
use Rattle.checker.specs.declared.visits.Passed.{Passed}
use Rattle.checker.specs.Cells.{cell, depth_in, held}
use Rattle.checker.specs.Inner.{Sound, place_mark, entry, Marks, Waits, Ready, in_hand, Took, PassesWith, Passes, Grew, Says, Goes}
use Rattle.checker.proofs.Holding.{in_depth, depth_same, set_at, held_le, held_set}

-- answers

module _ {A : ℕ → Type 0} {B : Reason → Type 0} where
  pub says_on : {n : ℕ} → A n → Says A B (Ok n)
  says_on {n} a = record { on = λ m e. subst A (one e) a; stuck = λ why e. clash cc }
    where
      one : {m : ℕ} → ◌≡◌ {A = Result ℕ Reason} (Ok n) (Ok m) → n ≡ m
      one {m} e = cc

  pub says_stuck : {why : Reason} → B why → Says A B (Err why)
  says_stuck {why} b = record { on = λ n e. clash cc; stuck = λ other e. subst B (one e) b }
    where
      one : {other : Reason} → ◌≡◌ {A = Result ℕ Reason} (Err why) (Err other) → why ≡ other
      one {other} e = cc

  pub says_map : {C : ℕ → Type 0} {D : Reason → Type 0} {r : Result ℕ Reason} → ((n : ℕ) → A n → C n)
      → ((why : Reason) → B why → D why) → Says A B r → Says C D r
  says_map on stuck S =
      record { on = λ n e. on n (S.on n e); stuck = λ why e. stuck why (S.stuck why e) }

pub passes_with : (w : List ℕ) (top : ℕ) {P Q : List ℕ → Result ℕ Reason → Type 0} (r : Result (Option ℕ) Reason)
    → ((x : List ℕ) (y : Result ℕ Reason) → P x y → Q x y) → PassesWith w top P r → PassesWith w top Q r
passes_with w top (Ok None) f p = f w (Ok top) p
passes_with w top (Ok (Some o)) f p = (f (in_hand w top o) (Ok (top + 1)) p.0, p.1)
passes_with w top (Err why) f p = f w (Err why) p

pub passes_map : (w : List ℕ) {P Q : List ℕ → Result ℕ Reason → Type 0} (r : Result Passed Reason)
    → ((x : List ℕ) (y : Result ℕ Reason) → P x y → Q x y) → Passes w P r → Passes w Q r
passes_map w (Ok p) f h = passes_with w p.top (Ok p.next) f h
passes_map w (Err why) f h = f w (Err why) h

-- growth

module _ {c w : List ℕ} {top : ℕ} (R : Ready c w top) where
  pub grew_none : Grew c c w w top top
  grew_none = record {
    ready = R;
    size = refl;
    keeps = λ o d h. h;
    waits = λ o d h. inl h;
    stays = λ j l. refl;
    marks = λ j. refl;
    more = omega arith;
    weigh = refl;
  }

  -- the cell o, which has no depth, gets the depth d, and o is put on the list
  module _ {o d : ℕ} (inside : o < length c) (free : 65535 < cell c o) (small : d ≤ 65535) where
    heavier : held (set c o d) ≡ suc (held c)
    heavier = held_set c o d inside free small

    pub room : top < length w
    room = omega (arith, R.light, R.size, heavier, held_le (set c o d), length-set c o d)

    at_top : (get_or w top 0 % place_mark ≡ 0) × (get_or w top 0 < 2 * place_mark) × (o < place_mark)
    at_top = (R.clear top (omega arith), R.small top, omega (arith, R.short))

    put : (P : ℕ → ℕ → Type 0) (j : ℕ) → P (get_or w top 0 + o) top → ((j ≡ top → ⊥) → P (get_or w j 0) j)
        → P (get_or (set w top (get_or w top 0 + o)) j 0) j
    put = set_at w top (get_or w top 0 + o) 0 room

    entry_new : entry (set w top (get_or w top 0 + o)) top ≡ o
    entry_new = ap (λ (x : ℕ). x % place_mark) (get_or-set_same w top (get_or w top 0 + o) 0 room)
        ∙ (let h = at_top in omega arith)

    entry_old : (j : ℕ) → (j ≡ top → ⊥) → entry (set w top (get_or w top 0 + o)) j ≡ entry w j
    entry_old j n = ap (λ (x : ℕ). x % place_mark) (get_or-set_other w top j (get_or w top 0 + o) 0 n)

    deeper : (q : ℕ) → (q ≡ o) ⊎ (cell c q ≤ 65535) → cell (set c o d) q ≤ 65535
    deeper q k = set_at c o d 65536 inside (λ x y. x ≤ 65535) q small (λ n. ⊎_elim (λ e. absurd (n e)) (λ l. l) k)

    ready_push : Ready (set c o d) (set w top (get_or w top 0 + o)) (top + 1)
    ready_push = record {
      size = simp length-set R.size;
      short = simp length-set R.short;
      small = λ j. put (λ x y. x < 2 * place_mark) j (let h = at_top in omega arith) (λ n. R.small j);
      deep = λ j l. elim (ℕ_discrete j top) [
        | yes z ↦ deeper _ (inl (ap (entry (set w top (get_or w top 0 + o))) z ∙ entry_new))
        | no n ↦ deeper _ (inr (subst (λ (x : ℕ). cell c x ≤ 65535) (sym (entry_old j n)) (R.deep j (omega arith))))
      ];
      clear = λ j l. entry_old j (λ z. omega arith) ∙ R.clear j (omega arith);
      light = omega (arith, R.light, heavier);
    }

    -- a cell that has a depth is another
    apart : (q g : ℕ) → depth_in c q ≡ Some g → q ≡ o → ⊥
    apart q g k z =
        let i = in_depth c q g k in
        let y : cell c q ≡ cell c o = ap (cell c) z in
        omega arith

    pub grew_push : Grew c (set c o d) w (set w top (get_or w top 0 + o)) top (top + 1)
    grew_push = record {
      ready = ready_push;
      size = length-set c o d;
      keeps = λ q g k. sym (depth_same (set c o d) c q (sym (get_or-set_other c o q d 65536 (apart q g k)))) ∙ k;
      waits = λ q g k. elim (ℕ_discrete q o) [
        | yes z ↦ inr (top, (omega arith, entry_new ∙ sym z))
        | no n ↦ inl (sym (depth_same c (set c o d) q (get_or-set_other c o q d 65536 n)) ∙ k)
      ];
      stays = λ j l. entry_old j (λ z. omega arith);
      marks = λ j. put (λ x y. x / place_mark ≡ get_or w y 0 / place_mark) j (let h = at_top in omega arith) (λ n. refl);
      more = omega arith;
      weigh = omega (arith, heavier);
    }

    -- off the list again it is in hand
    pub took_push : Took (in_hand w top o) w top o
    took_push = record {
      is = sym entry_new;
      size = sym (length-set w top (get_or w top 0 + o));
      here = let e = get_or-set_same w top (get_or w top 0 + o) 0 room in let n = entry_new in omega arith;
      there = λ i n. sym (get_or-set_other w top i (get_or w top 0 + o) 0 n);
    }

pub grew_then : {c c₁ c₂ w w₁ w₂ : List ℕ} {top t u : ℕ} → Grew c c₁ w w₁ top t → Grew c₁ c₂ w₁ w₂ t u
    → Grew c c₂ w w₂ top u
grew_then {w₁} {w₂} {top} {t} {u} A B =
    let m = A.more in
    let n = B.more in
    record {
      ready = B.ready;
      size = B.size ∙ A.size;
      keeps = λ o d h. B.keeps o d (A.keeps o d h);
      waits = λ o d h. ⊎_elim (λ g. ⊎_elim inl (λ q. inr (still o q)) (A.waits o d g)) inr (B.waits o d h);
      stays = λ j l. B.stays j (omega arith) ∙ A.stays j l;
      marks = λ j. B.marks j ∙ A.marks j;
      more = omega arith;
      weigh = omega (arith, A.weigh, B.weigh);
    }
  where
    still : (o : ℕ) → Waits w₁ t o → Waits w₂ u o
    still o q =
        let l = q.1.0 in
        (q.0, (omega (arith, B.more), B.stays q.0 q.1.0 ∙ q.1.1))

-- the marks stay where the quotients do
pub marks_on : {last : ℕ} {s w w' : List ℕ} → Marks last s w
    → ((j : ℕ) → get_or w' j 0 / place_mark ≡ get_or w j 0 / place_mark) → Marks last s w'
marks_on M same = record {
  place = λ o p. (let h = M.place o p in let e = same o in omega arith);
  only = λ o l. M.only o (let e = same o in omega arith);
}

-- work that relies on less and shows more
pub goes_map : {last : ℕ} {s st : List ℕ} {G H : Type 0} {P Q : List ℕ → Type 0} {c c' w w' : List ℕ} {top : ℕ}
    {r : Result ℕ Reason} → (H → Sound last s st c → G) → ((t : ℕ) → Grew c c' w w' top t → P c' → Q c')
    → Goes last s st G P c c' w w' top r → Goes last s st H Q c c' w w' top r
goes_map g p X = says_map
    (λ t Y. record { grew = Y.grew; sound = λ h S. Y.sound (g h S) S; has = p t Y.grew Y.has })
    (λ why B h S. B (g h S) S) X
