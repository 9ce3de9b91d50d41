-- What an accepted build says: the code is within its limit, and no label is open, so no jump waits.
-- Assumes nothing.
use Rattle.op.specs.declared.Refusal.{Refusal}
use Rattle.std.specs.Prelude.{Ok, Err, Result}
use mathlib.Core.Path.{◌≡◌, refl, sym, ap, ◌∙◌}
use mathlib.Core.Bool.{Bool, true, false, cond, ◌&&◌, ◌||◌}
use mathlib.Core.Logic.{◌⊎◌, inl, inr}
use mathlib.Core.List.{List, [], ◌∷◌}
use mathlib.Core.Option.{some as found}
use Prim.Native.Nat.{ℕ, zero, suc, ◌+◌, ◌*◌, ◌≤◌}
use lib.Dec.{leb, eqb}
use lib.ListN.{length, get_or, get_elem?}
use borrow.Author.Tests.{leb-true}
use Rattle.base.proofs.Bools.{or_true, clash}
use Rattle.op.specs.declared.Refusal.TheVariants.{OpenLabel, Unsound}
use Rattle.builder.specs.State.{kept, unless}
use Rattle.builder.specs.Marks.{any_open}
use Rattle.builder.specs.Names.{filled_names, build_of}
use Rattle.builder.specs.Marks.{open_kind, mark_of, mark_at}
use Rattle.code.specs.Tables.{code_limit, mark_cells, within}
use Rattle.builder.specs.declared.Builder.{Builder}
use Rattle.builder.specs.declared.marks.Mark.TheVariants.{Absent, Open, Patched, Target}
use Rattle.demand.specs.Machine.{isa}
use Rattle.demand.specs.History.{ok, waits, to, What, one, leap}
use Rattle.demand.specs.Calls.{build}
use Rattle.demand.specs.World.{World, world, given, after, Made}
use Rattle.base.proofs.Lists.{nth_cases}
use Rattle.demand.proofs.Book.{WValid}
use Rattle.demand.proofs.Bytes.{Closed}
use Rattle.demand.proofs.Machining.{laws}
use Rattle.demand.proofs.Model.{Turn, turn, registers}
use Rattle.demand.proofs.Contracts.{made_step}
use Rattle.demand.proofs.View.{tab}

built_facts : (b : Builder) (fill : ℕ) (names marks : List ℕ) (n : Builder)
    → (build_of b fill names marks).answer ≡ Ok n
    → (b.core.code ≤ code_limit) × (any_open b.core.marks marks ≡ false) × (n ≡ b)
unfolding build_of
built_facts b fill names marks n e =
    go (leb b.core.code code_limit)
    (leb b.names (length names) && within mark_cells b.core.marks (length marks))
    (any_open b.core.marks marks) refl refl e
  where
    go : (s t u : Bool) → leb b.core.code code_limit ≡ s → any_open b.core.marks marks ≡ u
        → (unless (s && t) Unsound names
        (cond u (kept (Err OpenLabel) names) (kept (Ok b) (filled_names b.names fill names)))).answer
        ≡ Ok n
        → (b.core.code ≤ code_limit) × (any_open b.core.marks marks ≡ false) × (n ≡ b)
    go true true false p q e = (leb-true b.core.code code_limit p, q, cc)
    go true true true p q e = clash cc
    go true false u p q e = clash cc
    go false t u p q e = clash cc

-- what an accepted build of w says of it and of the world that it leaves
pub record Builds (w w' : World) : Type 0 where
  pub limit : w.state.core.code ≤ code_limit
  pub closed : any_open w.state.core.marks w.marks ≡ false
  pub state : w'.state ≡ w.state
  pub code : w'.code ≡ w.code
  pub starts : w'.starts ≡ w.starts

pub builds : (fill : ℕ) (w w' : World) → Made (build fill) w ok w' → Builds w w'
builds fill w w' m =
    let e : turn w' ok ≡ registers w (build_of w.state fill w.names w.marks) =
    made_step (build fill) w w' ok m in
    go (build_of w.state fill w.names w.marks).answer refl (sym (ap (λ (t : Turn). t.answer) e))
    (ap (λ (t : Turn). t.left) e)
  where
    go : (a : Result Builder Refusal) → (build_of w.state fill w.names w.marks).answer ≡ a → given a ≡ ok
        → w' ≡ world (after a w.state) w.code w.locations w.exceptions w.constants
        (build_of w.state fill w.names w.marks).cells w.marks w.starts
        → Builds w w'
    go (Err r) p q l = clash cc
    go (Ok n) p q l =
        let f = built_facts w.state fill w.names w.marks n p in
        record {
          limit = f.0;
          closed = f.1;
          state = ap (λ (v : World). v.state) l ∙ f.2;
          code = ap (λ (v : World). v.code) l;
          starts = ap (λ (v : World). v.starts) l;
        }

open_kind_lem : (kind x y o d : ℕ) → mark_of kind x y ≡ Open o d → eqb kind open_kind ≡ true
unfolding mark_of
open_kind_lem kind x y o d e = go (eqb kind 1) (eqb kind 2) (eqb kind 3) e
  where
    go : (p q r : Bool) → cond p (Open x y) (cond q (Patched x y) (cond r (Target x y) Absent)) ≡ Open o d → p ≡ true
    go true q r e = refl
    go false true r e = clash cc
    go false false true e = clash cc
    go false false false e = clash cc

pub open_any : (n : ℕ) (marks : List ℕ) (k o d : ℕ) → get_elem? (tab n (mark_at marks)) k ≡ found (Open o d)
    → any_open n marks ≡ true
unfolding tab any_open
open_any zero marks k o d e = clash cc
open_any (suc n) marks k o d e = go (nth_cases (tab n (mark_at marks)) (mark_at marks n ∷ []) k e)
    (λ (q : get_elem? (tab n (mark_at marks)) k ≡ found (Open o d)). open_any n marks k o d q)
  where
    last : (i : ℕ) → get_elem? (mark_at marks n ∷ []) i ≡ found (Open o d)
        → eqb (get_or marks (n * mark_cells) 0) open_kind ≡ true
    last zero q = let m : mark_at marks n ≡ Open o d = cc in open_kind_lem (get_or marks (n * mark_cells) 0) (get_or marks (n * mark_cells + 1) 0) (get_or marks (n * mark_cells + 2) 0) o d m
    last (suc i) q = clash cc

    go : (get_elem? (tab n (mark_at marks)) k ≡ found (Open o d)) ⊎
        ((i : ℕ) × (k ≡ length (tab n (mark_at marks)) + i) × (get_elem? (mark_at marks n ∷ []) i ≡ found (Open o d)))
        → (get_elem? (tab n (mark_at marks)) k ≡ found (Open o d) → any_open n marks ≡ true)
        → (any_open n marks || eqb (get_or marks (n * mark_cells) 0) open_kind) ≡ true
    go (inl q) ih = rw (ih q) refl
    go (inr q) ih = rw (last q.0 q.2) (or_true (any_open n marks))

pub closed_by : (o : ℕ) (w : What isa) → WValid isa laws o w → ((j k : ℕ) → w ≡ leap j (waits k) → ⊥)
    → Closed isa laws o w
closed_by o (one i) v n = v
closed_by o (leap j (waits k)) v n = absurd (n j k refl)
closed_by o (leap j (to t)) v n = v
