-- What it shows that a place is asked to have a depth, and what one instruction asks of the places it goes to. One law
-- for each return of the code.
-- Assumes nothing.
use Rattle.op.specs.declared.Effect.{Effect}
use Rattle.std.specs.Prelude.{Option, None, Some, Result, Ok, Err}
use mathlib.Core.Path.{◌≡◌, refl, sym, subst, ◌∙◌}
use mathlib.Core.Bool.{true, false}
use mathlib.Core.List.{List}
use Prim.Native.Nat.{ℕ, ◌+◌, ◌*◌, ◌≤◌, ◌<◌}
use native.Mathlib.Omega.{arith}
use native.Mathlib.Decide.{dec_lt}
use lib.Dec.{leb}
use lib.ListN.{length, get_or, set, length-set, get_or-eq_default}
use lib.Seq.{get_or-set_same}
use borrow.Author.Tests.{leb-true, leb-false}
use Rattle.base.proofs.Lists.{get_d_any}
use Rattle.base.proofs.Bools.{not_both, clash}
use Rattle.code.specs.declared.Flow.{Flow}
use Rattle.code.specs.declared.Goal.TheVariants.{Nowhere, To, Outside}
use Rattle.code.specs.Depths.{Place, Jumps, Derived, fall, jump}
use Rattle.code.proofs.Assigning.{leads, leads_is}
use Rattle.code.proofs.Places.{place_next}
use Rattle.checker.specs.declared.Reason.{Reason}
use Rattle.checker.specs.declared.Reason.TheVariants.{TwoDepths, NetOutOfRange, TakenOutOfRange, NoPlace}
use Rattle.checker.specs.Cells.{cell, depth_in}
use Rattle.checker.specs.Reasons.{Fails}
use Rattle.checker.specs.Inner.{Sound, Here, place_mark, Ready, in_hand, Took, PassesWith, Landed, Asked, Handed, Fell, FellInHand}
use Rattle.checker.specs.Inner.{Jumped, Moved}
use Rattle.checker.proofs.Holding.{depth_in_lem, in_depth, set_at, held_le}
use Rattle.checker.proofs.Growing.{says_on, says_stuck, says_map, passes_with, grew_none, grew_push, took_push}
use Rattle.checker.proofs.Growing.{grew_then, goes_map}

-- changes

pub landed_low : (d : ℕ) (c : Effect) → d + c.up < c.down → Landed d c None
landed_low d c l = λ e k. omega (arith, (leads_is d c e k).0)

pub landed_high : (d : ℕ) (c : Effect) (t : ℕ) → t + c.down ≡ d + c.up → 65535 < t → Landed d c None
landed_high d c t h l = λ e k. let z = leads_is d c e k in omega arith

pub landed : (d : ℕ) (c : Effect) (t : ℕ) → t + c.down ≡ d + c.up → t ≤ 65535 → Landed d c (Some t)
landed d c t h l = (l, leads d c t h l)

-- depths so far: a place without one gets one that is derived
sound_set : {last : ℕ} {s st c : List ℕ} {o d : ℕ} → Sound last s st c → o < length c → d ≤ 65535 → Place last s o
    → Derived last s st o d → Sound last s st (set c o d)
sound_set {last} {s} {st} {c} {o} {d} S l small p D = record {
  small = λ q. at (λ x y. x ≤ 65536) q (omega arith) (λ n. S.small q);
  place = λ q g h.
      let i = in_depth (set c o d) q g h in
      at (λ x y. x ≡ g → Place last s y) q (λ z. p) (λ n z. S.place q g (depth_in_lem c q g z i.1)) i.0;
  derived = λ q g h.
      let i = in_depth (set c o d) q g h in
      at (λ x y. x ≡ g → Derived last s st y g) q (λ z. subst (λ (x : ℕ). Derived last s st o x) z D)
      (λ n z. S.derived q g (depth_in_lem c q g z i.1)) i.0;
}
  where
    at : (P : ℕ → ℕ → Type 0) (q : ℕ) → P d o → ((q ≡ o → ⊥) → P (cell c q) q) → P (cell (set c o d) q) q
    at = set_at c o d 65536 l

-- a place is asked to have a depth

module _ (c w : List ℕ) (top o d : ℕ) (R : Ready c w top) (inside : o < length c) (small : d ≤ 65535) where
  here : cell c o ≡ get_or c o 0
  here = get_d_any c o 65536 0 inside

  pub asked_same : get_or c o 0 ≡ d → Asked c c w w top o d (Ok top)
  asked_same e last s st =
      says_on (record { grew = grew_none R; sound = λ g S. S; has = depth_in_lem c o d (here ∙ e) small })

  pub asked_clash : get_or c o 0 ≤ 65535 → (get_or c o 0 ≡ d → ⊥)
      → Asked c c w w top o d (Err (TwoDepths o (get_or c o 0) d))
  asked_clash l n last s st = says_stuck (λ g S. record {
    place = g.0;
    one = S.derived o (get_or c o 0) (depth_in_lem c o (get_or c o 0) here l);
    other = g.1;
    differ = n;
  })

  pub asked_fresh : 65535 < get_or c o 0
      → Asked c (set c o d) w (in_hand w top o) top o d (Ok (top + 1)) × Took (in_hand w top o) w top o
  asked_fresh l = let free : 65535 < cell c o = omega (arith, here) in (
    λ last s st. says_on (record {
      grew = grew_push R inside free small;
      sound = λ g S. sound_set S inside small g.0 g.1;
      has = depth_in_lem (set c o d) o d (get_or-set_same c o d 65536 inside) small;
    }),
    took_push R inside free small,
  )

-- what would be in hand is put on the list

module _ (c c' : List ℕ) (o d : ℕ) (r : Result (Option ℕ) Reason) (H : Handed c c' o d r) (w : List ℕ) (top : ℕ)
    (R : Ready c w top) where
  told : {q : Result (Option ℕ) Reason} → r ≡ q → PassesWith w top (λ x y. Asked c c' w x top o d y) q
  told e = subst (PassesWith w top (λ x y. Asked c c' w x top o d y)) e (H w top R)

  pub asked_rests : r ≡ Ok None → Asked c c' w w top o d (Ok top)
  asked_rests e = told e

  pub asked_stuck : {why : Reason} → r ≡ Err why → Asked c c' w w top o d (Err why)
  asked_stuck e = told e

  module _ {p : ℕ} (e : r ≡ Ok (Some p)) where
    pub room_in_hand : (top < length w) × (get_or w top 0 + p < 2 * place_mark)
    room_in_hand =
        let G = (((told e).0 0 c c).on (top + 1) refl).grew in
        let inside : top < length w =
        omega (arith, G.ready.light, held_le c', G.ready.size, length-set w top (get_or w top 0 + p)) in
        let same = get_or-set_same w top (get_or w top 0 + p) 0 inside in
        (inside, omega (arith, G.ready.small top))

    pub asked_put : {w' : List ℕ} {t : ℕ} → w' ≡ in_hand w top p → t ≡ top + 1 → Asked c c' w w' top o d (Ok t)
    asked_put {w'} {t} ew et =
        subst (λ (x : List ℕ). Asked c c' w x top o d (Ok t)) (sym ew)
        (subst (λ (n : ℕ). Asked c c' w (in_hand w top p) top o d (Ok n)) (sym et) (told e).0)

-- an instruction that has a depth, and a fault
failing : {last : ℕ} {s st : List ℕ} {o d : ℕ} {f : Flow} {P : Flow → Type 0} → Here last s st o d f → P f
    → Fails last s st o d P
failing {f} h p = record { place = h.place; flow = f; stands = h.stands; derived = h.derived; fault = p }

-- falling through

module _ (f : Flow) (c w : List ℕ) (top at d : ℕ) (R : Ready c w top) where
  pub fell_out : Landed d f.net None → Fell f c c w w top at d (Err (NetOutOfRange at d))
  fell_out L last s st = says_stuck (λ h S. failing h L)

  module _ (t : ℕ) (L : Landed d f.net (Some t)) where
    pub fell_stop : f.falls ≡ false → Fell f c c w w top at d (Ok top)
    fell_stop stays last s st = says_on (record {
      grew = grew_none R;
      sound = λ h S. S;
      has = record { depth = t; leads = L.1; has = λ y. absurd (not_both y stays) };
    })

    pub fell_on : (c' w' : List ℕ) (r : Result ℕ Reason) → f.falls ≡ true → Asked c c' w w' top (at + f.size) t r
        → Fell f c c' w w' top at d r
    fell_on c' w' r yes-falls W last s st = goes_map
        (λ h S. (place_next h.place h.stands refl, fall h.derived h.stands yes-falls L.1 refl))
        (λ u G e. record { depth = t; leads = L.1; has = λ y. e }) (W last s st)

-- the taken jump

module _ (f : Flow) (c w : List ℕ) (top at d : ℕ) (R : Ready c w top) where
  pub jumped_not : f.goal ≡ Nowhere → Jumped f c c w w top at d (Ok top)
  jumped_not g last s st = says_on (record { grew = grew_none R; sound = λ h S. S; has = λ y. absurd (y g) })

  pub jumped_outside : f.goal ≡ Outside → Jumped f c c w w top at d (Err (NoPlace at d))
  jumped_outside g last s st =
      says_stuck (λ h S. failing h.0 (record { jumps = λ n. clash cc; astray = λ t e p. clash cc }))

  module _ (t : ℕ) (g : f.goal ≡ To t) where
    is_jump : f.goal ≡ Nowhere → ⊥
    is_jump n = clash cc

    same_target : {q : ℕ} → f.goal ≡ To q → q ≡ t
    same_target {q} e = cc

    pub jumped_astray : leb place_mark (get_or w t 0) ≡ false → Jumped f c c w w top at d (Err (NoPlace at d))
    jumped_astray b last s st = says_stuck (λ h S. failing h.0 (record {
      jumps = is_jump;
      astray = λ q e p.
          let m = h.1.place t (subst (Place last s) (same_target e) p) in
          omega (arith, leb-false place_mark (get_or w t 0) b);
    }))

    pub target_inside : leb place_mark (get_or w t 0) ≡ true → t < length c
    target_inside b = elim (dec_lt t (length w)) [
      | yes l ↦ omega (arith, R.size)
      | no l ↦ (let none_there : get_or w t 0 ≡ 0 = get_or-eq_default w 0 (omega arith) in
          absurd (omega (arith, leb-true place_mark (get_or w t 0) b)))
    ]

    pub jumped_out : Landed d f.taken None → Jumped f c c w w top at d (Err (TakenOutOfRange at d))
    jumped_out L last s st = says_stuck (λ h S. failing h.0 (record { jumps = is_jump; leaves = L }))

    pub jumped_on : (e : ℕ) → Landed d f.taken (Some e) → (c' w' : List ℕ) (r : Result ℕ Reason)
        → leb place_mark (get_or w t 0) ≡ true → Asked c c' w w' top t e r → Jumped f c c' w w' top at d r
    jumped_on e L c' w' r b W last s st = goes_map
        (λ h S. (h.1.only t (leb-true _ _ b), jump h.0.derived h.0.stands g L.1))
        (λ u G has n. record { target = t; depth = e; goes = g; leads = L.1; has = has }) (W last s st)

-- both

module _ (f : Flow) (c c₁ w w₁ : List ℕ) (top at d : ℕ) (x : Result ℕ Reason) (J : Jumped f c c₁ w w₁ top at d x) where
  pub moved_stuck : {why : Reason} → x ≡ Err why → Moved f c c₁ w w₁ top at d (Err why)
  moved_stuck {why} e last s st = says_stuck ((J last s st).stuck why e)

  module _ {mid : ℕ} (e : x ≡ Ok mid) where
    pub moved_ready : Ready c₁ w₁ mid
    moved_ready = ((J 0 c c).on mid e).grew.ready

    pub moved_on : (c₂ w₂ : List ℕ) (r : Result ℕ Reason) → Fell f c₁ c₂ w₁ w₂ mid at d r → Moved f c c₂ w w₂ top at d r
    moved_on c₂ w₂ r F last s st =
        let X = (J last s st).on mid e in
        says_map
        (λ t Y. record {
          grew = grew_then X.grew Y.grew;
          sound = λ h S. Y.sound h.0 (X.sound h S);
          has = record { falls = Y.has; jumps = λ n. jumps_on Y.grew.keeps (X.has n) };
        })
        (λ why B h S. B h.0 (X.sound h S)) (F last s st)
      where
        jumps_on : ((o e : ℕ) → depth_in c₁ o ≡ Some e → depth_in c₂ o ≡ Some e) → Jumps (depth_in c₁) f d
            → Jumps (depth_in c₂) f d
        jumps_on keeps K =
            record { target = K.target; depth = K.depth; goes = K.goes; leads = K.leads; has = keeps _ _ K.has }

    -- and the place behind the instruction may be in hand
    pub moved_in_hand : (c₂ : List ℕ) (r : Result (Option ℕ) Reason) → FellInHand f c₁ c₂ at d r
        → {q : Result (Option ℕ) Reason} → r ≡ q → PassesWith w₁ mid (λ y z. Moved f c c₂ w y top at d z) q
    moved_in_hand c₂ r F e = subst (PassesWith w₁ mid (λ y z. Moved f c c₂ w y top at d z)) e
        (passes_with w₁ mid r (λ y z. moved_on c₂ y z) (F w₁ mid moved_ready))
