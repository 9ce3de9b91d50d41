-- Two steps for a walk by hand that goes through a loop. Assumes `Logic`.
--     tests      the test of a `while`: where it holds the turn goes on, and where it fails the loop is left
--     whether    an `if` with no `else`, and then the rest
use mathlib.Core.Bool.{Bool, not}
use mathlib.Core.List.{List}
use Prim.Native.Nat.{ℕ}
use seplogic.Ra.Ura.{Ura}
use lib.Dec.{T}
use mir.Syntax.{Opd as Operand, Body, seq, cond, skip, exit}
use mir.Val.{vbool}
use prog.Wp.{Env, Calls, Loops, Wp, after_seq, exits}
use types.Logic.{Logic}
use types.Kit.{Item, Post, post, runs, prop, any_q, Seq, ◌$◌}
use types.Run.{Opd, first, branches, skips, jumps}

module _ {M : Type 1} {𝓤 : Ura M} {𝓛 : Logic 𝓤} {K : Type 0} {Γ : List (Item 𝓤)} {E : Env 𝓤 𝓛.H} {C : Calls 𝓤 𝓛.H} {Λ : Loops 𝓤 𝓛.H} {q : Post 𝓤 𝓛.H} where
  open 𝓛 use {H}

  pub tests : K → {c : Operand} {n : ℕ} {b : Body} {y : Bool} → Opd K 𝓛 Γ E c (vbool y)
      → (T y → Seq K 𝓛 Γ (runs C Λ E b q)) → (T (not y) → Seq K 𝓛 Γ (prop (post 𝓤 H q (exits n))))
      → Seq K 𝓛 Γ (runs C Λ E (seq (cond c skip (exit n)) b) q)
  tests t o go out = first t $ branches t o (λ h. skips t $ record { prf = (go h).prf }) (λ h. jumps t $ out h)

  pub whether : K → {c : Operand} {a b : Body} {y : Bool} → Opd K 𝓛 Γ E c (vbool y)
      → (T y → Seq K 𝓛 Γ (runs C Λ E a (any_q (after_seq 𝓤 H (Wp 𝓤 H C Λ E b (post 𝓤 H q)) (post 𝓤 H q)))))
      → (T (not y) → Seq K 𝓛 Γ (runs C Λ E b q)) → Seq K 𝓛 Γ (runs C Λ E (seq (cond c a skip) b) q)
  whether t o go on = first t $ branches t o go (λ h. skips t $ record { prf = (on h).prf })
