-- A call in a walk by hand, of a function whose `requires` and `ensures` are facts: one step. The head of the context is the tokens and what the arguments own. The operands are
-- read with both joined into one item, what the callee asks. Once the call has returned, the walk has a value r, what r owns, the tokens, and the fact φ that the `ensures` says.
--     calls-left        a callee that was lent a `&mut`: the walk also has what is said of its last value ws, of which φ speaks too
--     calls-told        any other;   calls-told-last   the same where the call is the last statement of its part
-- Assumes `Logic`, and that the table of calls is monotone under a frame.
use mathlib.Core.Path.{sym, ap, subst}
use mathlib.Core.List.{List, [], ◌∷◌}
use seplogic.Ra.Ura.{Ura}
use mir.Syntax.{Callee, Place, Opd as Operand, Body, seq, call}
use mir.Val.{Val}
use base.Logic.{SProp, ent, sep, emp, via, mono_r, id⊢}
use prog.Wp.{Env, Calls, Loops}
use types.Logic.{Logic}
use contract.Monad.{fact}
use sound.Laws.{∗emp}
use sound.WpLaws.{FmC}
use types.Kit.{Item, ‵, raw, ◌⊛◌, some, later, Post, Goal, Soaks, runs, lands, settles, Seq, ◌$◌, move, drop, use1, use2, split, pick, await}
use types.Run.{Opds}
use denote.RattleType.{RattleType, owns}
use denote.Laws.{Is, Tells, shows}
use denote.Signature.{type_at, types_at}
use denote.Steps.{heard, peeks, only}
use denote.Triple.Call.{calls_at, calls_at_last}
use denote.Triple.Clauses.{Ended, Clauses, Lasts, lasts, at_exit, ensured, closing}
use denote.Triple.Entry.{Res, alive, on_entry}
use denote.Triple.Spec.{triple_of}
use denote.Triple.Statement.{Contract, Triple}

module _ {M : Type 1} {𝓤 : Ura M} (𝓛 : Logic 𝓤) (T : Ended) (c : Clauses 𝓤 T) where
  -- the contract
  abbrev pub Con : Contract 𝓤
  Con = triple_of 𝓛 T.signature (closing 𝓛 T c)

  module _ (y : Con.Ghost) where
    abbrev pub Result : Type 0
    Result = Res T.signature y.0.0

    abbrev pub Row : RattleType
    Row = type_at T.signature.result y.0.0

    -- the tokens; what the arguments own
    abbrev pub toks : Item 𝓤
    toks = raw (alive 𝓛 T.signature y.0.0 y.0.1)

    abbrev pub args : Item 𝓤
    args = ‵ (owns (types_at T.signature.params y.0.0) y.0.3 y.0.4)

    abbrev pub Entry : SProp 𝓤
    Entry = on_entry 𝓛 T.signature y.0.0 y.0.1 y.0.3 y.0.4

    asked : ent 𝓤 (emp 𝓤) ((c y.0.0 y.0.3).requires y.1) → ent 𝓤 Entry (Con.pre y)
    asked asks = via 𝓤 (sep 𝓤 Entry (emp 𝓤)) (∗emp 𝓤 Entry) (mono_r 𝓤 Entry asks)

    -- the `ensures` says φ of the result and of what is last
    abbrev pub Says : (Result → Lasts T y.0.0 y.0.3 → Type 0) → Type 1
    Says φ = (r : Result) (ws : Lasts T y.0.0 y.0.3) → ent 𝓤 ((c y.0.0 y.0.3).ensures y.1 r (at_exit T y.0.0 y.0.3 ws)) (fact 𝓤 (φ r ws))

    -- what is had once the call has returned r, whose machine value is w: what r owns, the tokens and what is last
    abbrev pub Had : Result → Val → Lasts T y.0.0 y.0.3 → List (Item 𝓤) → List (Item 𝓤)
    Had r w ws Γ = ‵ (Row.own_val r (w ∷ [])) ∷ toks ∷ ‵ (lasts T y.0.0 y.0.3 ws) ∷ Γ

module _ {M : Type 1} {𝓤 : Ura M} {𝓛 : Logic 𝓤} {K : Type 0} {Γ : List (Item 𝓤)} where
  -- it is had of the contract's own `post`, whatever the walk then shows
  open 𝓛 use {H}

  left : K → (T : Ended) (c : Clauses 𝓤 T) (y : (Con 𝓛 T c).Ghost)
      (φ : Result 𝓛 T c y → Lasts T y.0.0 y.0.3 → Type 0) → Says 𝓛 T c y φ
      → (val : Result 𝓛 T c y → Val) → Tells (Row 𝓛 T c y) (Is (Row 𝓛 T c y)) (λ r. val r ∷ [])
      → (G : Val → Goal 𝓤 H) → ((w : Val) → Soaks (G w))
      → ((r : Result 𝓛 T c y) (ws : Lasts T y.0.0 y.0.3) → φ r ws → Is (Row 𝓛 T c y) r (val r ∷ [])
      → Seq K 𝓛 (Had 𝓛 T c y r (val r) ws Γ) (G (val r)))
      → (u : Val) → Seq K 𝓛 (raw ((Con 𝓛 T c).post y u) ∷ Γ) (G u)
  left t T c y φ says val tl G soaks k u =
      use1 𝓛 (later (some (λ (r : Result 𝓛 T c y). (toks 𝓛 T c y ⊛ ‵ ((Row 𝓛 T c y).own_val r (u ∷ []))) ⊛ raw (ensured 𝓛 T c y.0.0 y.0.3 y.1 r)))) (id⊢ 𝓤 _) $ await t (soaks u) $ pick t (λ r.
      split t $ move t (1 ∷ []) $
      use1 𝓛 (some (λ (ws : Lasts T y.0.0 y.0.3). ‵ (lasts T y.0.0 y.0.3 ws) ⊛ raw ((c y.0.0 y.0.3).ensures y.1 r (at_exit T y.0.0 y.0.3 ws)))) (id⊢ 𝓤 _) $ pick t (λ ws.
      split t $ move t (1 ∷ []) $ use1 𝓛 (raw (fact 𝓤 (φ r ws))) (says r ws) $ heard t (φ r ws) (λ e. move t (1 ∷ []) $ split t $ move t (1 ∷ []) $
      peeks t (Row 𝓛 T c y) (Is (Row 𝓛 T c y)) (shows 𝓛 (Row 𝓛 T c y)) r (u ∷ []) (λ is.
      subst (λ (w : Val). Is (Row 𝓛 T c y) r (w ∷ []) → Seq K 𝓛 (Had 𝓛 T c y r w ws Γ) (G w))
      (sym (ap only (tl r (u ∷ []) is))) (k r ws e) is))))

module _ {M : Type 1} {𝓤 : Ura M} {𝓛 : Logic 𝓤} {K : Type 0} {Γ : List (Item 𝓤)} {E : Env 𝓤 𝓛.H} {C : Calls 𝓤 𝓛.H} {f : Callee} {xs : List Operand} {Λ : Loops 𝓤 𝓛.H} {q : Post 𝓤 𝓛.H} {d : Place} where
  open 𝓛 use {H}

  module _ (t : K) (fm : FmC 𝓤 H 𝓛.laws C) (T : Ended) (c : Clauses 𝓤 T) (met : Triple 𝓤 (C f) (Con 𝓛 T c))
      (y : (Con 𝓛 T c).Ghost) where
    pub calls_left : (φ : Result 𝓛 T c y → Lasts T y.0.0 y.0.3 → Type 0) → Says 𝓛 T c y φ
        → ent 𝓤 (emp 𝓤) ((c y.0.0 y.0.3).requires y.1) → (val : Result 𝓛 T c y → Val) → Tells (Row 𝓛 T c y) (Is (Row 𝓛 T c y)) (λ r. val r ∷ [])
        → {rest : Body} → Opds K 𝓛 (raw ((Con 𝓛 T c).pre y) ∷ Γ) E xs ((Con 𝓛 T c).args y)
        → ((r : Result 𝓛 T c y) (ws : Lasts T y.0.0 y.0.3) → φ r ws → Is (Row 𝓛 T c y) r (val r ∷ [])
        → Seq K 𝓛 (Had 𝓛 T c y r (val r) ws Γ) (lands C Λ E d (val r) rest q))
        → Seq K 𝓛 (toks 𝓛 T c y ∷ args 𝓛 T c y ∷ Γ) (runs C Λ E (seq (call f xs d) rest) q)
    calls_left φ says asks val tl {rest} os k =
        use2 𝓛 (raw ((Con 𝓛 T c).pre y)) (asked 𝓛 T c y asks) $
        calls_at t fm (Con 𝓛 T c) met y os
        (left t T c y φ says val tl (λ u. lands C Λ E d u rest q) (λ u. tt) k)

    pub calls_told : (φ : Result 𝓛 T c y → Type 0) → Says 𝓛 T c y (λ r ws. φ r)
        → ent 𝓤 (emp 𝓤) ((c y.0.0 y.0.3).requires y.1) → (val : Result 𝓛 T c y → Val) → Tells (Row 𝓛 T c y) (Is (Row 𝓛 T c y)) (λ r. val r ∷ [])
        → {rest : Body} → Opds K 𝓛 (raw ((Con 𝓛 T c).pre y) ∷ Γ) E xs ((Con 𝓛 T c).args y)
        → ((r : Result 𝓛 T c y) → φ r → Is (Row 𝓛 T c y) r (val r ∷ [])
        → Seq K 𝓛 (‵ ((Row 𝓛 T c y).own_val r (val r ∷ [])) ∷ toks 𝓛 T c y ∷ Γ) (lands C Λ E d (val r) rest q))
        → Seq K 𝓛 (toks 𝓛 T c y ∷ args 𝓛 T c y ∷ Γ) (runs C Λ E (seq (call f xs d) rest) q)
    calls_told φ says asks val tl os k =
        calls_left (λ r ws. φ r) says asks val tl os (λ r ws e is. move t (2 ∷ []) $ drop t $ k r e is)

    pub calls_told_last : (φ : Result 𝓛 T c y → Type 0) → Says 𝓛 T c y (λ r ws. φ r)
        → ent 𝓤 (emp 𝓤) ((c y.0.0 y.0.3).requires y.1) → (val : Result 𝓛 T c y → Val) → Tells (Row 𝓛 T c y) (Is (Row 𝓛 T c y)) (λ r. val r ∷ [])
        → Opds K 𝓛 (raw ((Con 𝓛 T c).pre y) ∷ Γ) E xs ((Con 𝓛 T c).args y)
        → ((r : Result 𝓛 T c y) → φ r → Is (Row 𝓛 T c y) r (val r ∷ [])
        → Seq K 𝓛 (‵ ((Row 𝓛 T c y).own_val r (val r ∷ [])) ∷ toks 𝓛 T c y ∷ Γ) (settles E d (val r) q))
        → Seq K 𝓛 (toks 𝓛 T c y ∷ args 𝓛 T c y ∷ Γ) (runs C Λ E (call f xs d) q)
    calls_told_last φ says asks val tl os k =
        use2 𝓛 (raw ((Con 𝓛 T c).pre y)) (asked 𝓛 T c y asks) $
        calls_at_last t fm (Con 𝓛 T c) met y os
        (left t T c y (λ r ws. φ r) says val tl (λ u. settles E d u q) (λ u. tt)
        (λ r ws e is. move t (2 ∷ []) $ drop t $ k r e is))
