-- Paths and derived depths: along a path the depths are the assignment's, and each derived depth has its path. So the
-- greatest depth is enough, and some path needs it.
-- Assumes nothing.
use Rattle.code.specs.Decode.{instr}
use Rattle.code.specs.declared.Instr.{Instr}
use Rattle.op.specs.declared.Effect.{Effect}
use Rattle.std.specs.Prelude.{Ok, Err, Some, None, Result, Option}
use mathlib.Core.Path.{◌≡◌, refl, sym, ap, subst, ◌∙◌}
use mathlib.Core.Bool.{Bool, true, false, cond, not}
use mathlib.Core.List.Memᴰ.{head as mhead}
use mathlib.Core.List.Memᴰ.{tail as mtail}
use mathlib.Core.List.{List, [], ◌∷◌, Memᴰ as Mem}
use mathlib.Core.List.Memᴰ
use mathlib.Core.Logic.{⊎_elim, inl, inr}
use Prim.Native.Nat.{ℕ, suc, ◌+◌, ◌-◌}
use native.Mathlib.Omega.{arith}
use lib.Dec.{ltb, leb, eqb}
use lib.IntN.{ℤ, pos, negsuc, sub_ℕ, nat_abs, ◌+ℤ◌}
use lib.ListN.{length, drop}
use borrow.Author.Tests.{ltb-true, ltb-false, le-ltb, leb-true}
use Rattle.base.proofs.Bools.{clash, not_true}
use Rattle.op.specs.Effects.{effect_of, taken_of, dead_maker, net_of}
use Rattle.op.specs.Shapes.{shape_number, operand_shape}
use Rattle.op.specs.declared.Operand.{Operand}
use Rattle.op.specs.declared.Operand.TheVariants as O
use Rattle.op.specs.declared.Refusal.{Refusal}
use Rattle.code.specs.Decode.{decode}
use Rattle.code.specs.Depths.{Stands, Begins, Leads, Assigns, Derived, start, fall, jump}
use Rattle.code.specs.Flow.{goal_by, goal_of, change_of, flow_by, flowing_by, flow_of}
use Rattle.code.specs.Reading.{Spot, spot_at, places_in}
use Rattle.code.specs.declared.Flow.{Flow}
use Rattle.code.specs.declared.Goal.TheVariants.{Nowhere, To, Outside}
use Rattle.code.proofs.Assigning.{leads_is, derived_in}
use Rattle.code.proofs.Decoding.{decoded}
use Rattle.code.proofs.Instructions.{read_from, read_ind}
use Rattle.code.proofs.Moving.{is_by, change_is, flowed, jumps_by_shape, net_is}
use Rattle.checker.specs.declared.Assignment.{Assignment}
use Rattle.checker.specs.Promise.{Greatest}
use Rattle.checker.specs.Paths.{Point, Met, FallsThrough, TakesJump, Follows, Path, Enough}
use Rattle.checker.specs.Statements.{StackEnough}
use Rattle.checker.proofs.Promising.{accepted}

abbrev point : ℕ → ℕ → Point
point o d = record { offset = o; depth = pos d }

-- whole numbers

-- the depth d, changed by up - down, is e
summed : (up down d e : ℕ) → e + down ≡ d + up → pos d +ℤ sub_ℕ up down ≡ pos e
summed up down d e h = go (ltb up down) refl
  where
    go : (b : Bool) → ltb up down ≡ b → pos d +ℤ cond b (negsuc (down - suc up)) (pos (up - down)) ≡ pos e
    go true l =
        let less = ltb-true up down l in
        let z : d - suc (down - suc up) ≡ e = omega arith in
        rw (le-ltb d (suc (down - suc up)) (omega arith), z) refl
    go false l =
        let more = ltb-false up down l in
        let z : d + (up - down) ≡ e = omega arith in
        rw z refl

-- an effect carries the depth where its change leads
carried : (x : Result Effect Refusal) (z : ℤ) (d e : ℕ) → net_of x ≡ Ok z → Leads d (change_of x) e → pos d +ℤ z ≡ pos e
carried (Ok effect) z d e n l =
    let i : sub_ℕ effect.up effect.down ≡ z = cc in
    rw (← i) (summed effect.up effect.down d e (leads_is d _ e l).0)
carried (Err r) z d e n l = clash cc

-- a target, as a whole number
goal_sum : (next end t : ℕ) (z : ℤ) → goal_by next end z ≡ To t → pos t ≡ pos next +ℤ z
unfolding goal_by
goal_sum next end t (pos n) e = go (leb (next + n) end) e
  where
    go : (b : Bool) → cond b (To (next + n)) Outside ≡ To t → pos t ≡ pos (next + n)
    go true h = cc
    go false h = clash cc
goal_sum next end t (negsuc n) e = go (leb (suc n) next) refl e
  where
    go : (b : Bool) → leb (suc n) next ≡ b → cond b (To (next - suc n)) Outside ≡ To t → pos t ≡ pos next +ℤ negsuc n
    go true l h =
        let i : next - suc n ≡ t = cc in
        rw (le-ltb next (suc n) (leb-true (suc n) next l), i) refl
    go false l h = clash cc

-- a displacement leads to a place or out of the code
goal_some : (next end : ℕ) (z : ℤ) → goal_by next end z ≡ Nowhere → ⊥
unfolding goal_by
goal_some next end (pos n) e = go (leb (next + n) end) e
  where
    go : (b : Bool) → cond b (To (next + n)) Outside ≡ Nowhere → ⊥
    go true h = clash cc
    go false h = clash cc
goal_some next end (negsuc n) e = go (leb (suc n) next) e
  where
    go : (b : Bool) → cond b (To (next - suc n)) Outside ≡ Nowhere → ⊥
    go true h = clash cc
    go false h = clash cc

-- what reading meets

module _ (last : ℕ) (s : List ℕ) where
  -- a step of reading gives each instruction that is met
  met_step : (at : ℕ) (x : Spot) → Mem x (read_from last s at).spots
      → decode last x.offset (drop x.offset s) ≡ Ok (Some (instr x.what.opcode x.what.operand x.size))
  met_step = read_ind last s (λ at read. (x : Spot) → Mem x read.spots
      → decode last x.offset (drop x.offset s) ≡ Ok (Some (instr x.what.opcode x.what.operand x.size)))
      (λ at k o z e h x m. ⊎_elim (λ i. rw i e) (h x) (Memᴰ.cases_cons m))
      (λ at e x m. absurd (Memᴰ.not-nil m)) (λ at r e x m. absurd (Memᴰ.not-nil m))

  -- and at a place what a step gives is met
  step_met : (at o k : ℕ) (p : Operand) (z : ℕ) → Mem o (places_in (read_from last s at))
      → decode last o (drop o s) ≡ Ok (Some (instr k p z)) → Mem (spot_at last o (drop o s) k p z) (read_from last s at).spots
  step_met = read_ind last s (λ at read. (o k : ℕ) (p : Operand) (z : ℕ) → Mem o (places_in read)
      → decode last o (drop o s) ≡ Ok (Some (instr k p z)) → Mem (spot_at last o (drop o s) k p z) read.spots)
      (λ at k p z e h o k' p' z' m e'. ⊎_elim (λ i. mhead (same_spot o at k k' p p' z z' i e e'))
      (λ j. mtail (h o k' p' z' j e')) (Memᴰ.cases_cons m))
      (λ at e o k p z m e'. absurd (at_end_lem o at k p z (Memᴰ.eq_of_singleton m) e e'))
      (λ at r e o k p z m e'. absurd (at_fault o at k p z r (Memᴰ.eq_of_singleton m) e e'))
    where
      same_spot : (o at k k' : ℕ) (p p' : Operand) (z z' : ℕ) → o ≡ at → decode last at (drop at s) ≡ Ok (Some (instr k p z))
          → decode last o (drop o s) ≡ Ok (Some (instr k' p' z'))
          → spot_at last o (drop o s) k' p' z' ≡ spot_at last at (drop at s) k p z
      same_spot o at k k' p p' z z' i e e' =
          let met : instr k' p' z' ≡ instr k p z = cc in
          ap (λ (x : Instr). spot_at last o (drop o s) x.opcode x.operand x.size) met
          ∙ ap (λ (x : ℕ). spot_at last x (drop x s) k p z) i

      at_end_lem : (o at k : ℕ) (p : Operand) (z : ℕ) → o ≡ at → decode last at (drop at s) ≡ Ok None
          → decode last o (drop o s) ≡ Ok (Some (instr k p z)) → ⊥
      at_end_lem o at k p z i e e' = clash cc

      at_fault : (o at k : ℕ) (p : Operand) (z : ℕ) (r : Refusal) → o ≡ at → decode last at (drop at s) ≡ Err r
          → decode last o (drop o s) ≡ Ok (Some (instr k p z)) → ⊥
      at_fault o at k p z r i e e' = clash cc

  -- how an instruction that is met moves on
  abbrev flow_at : ℕ → ℕ → Operand → ℕ → Flow
  flow_at o k p z = flow_by (o + 3) (o + length (drop o s)) k p z

  met_stands : (o : ℕ) (M : Met last s o)
      → Stands last s o (flow_at o M.spot.what.opcode M.spot.what.operand M.spot.size)
  unfolding flow_of
  met_stands o M =
      let e = met_step 0 M.spot M.read in
      record { is = ap (flowing_by o (o + length (drop o s))) (rw M.here at e) }

-- along a path the depths are those of any assignment

module _ {last : ℕ} {s st : List ℕ} {a : ℕ → Option ℕ} (A : Assigns last s st a) where
  -- the depth that a point has is the assignment's there
  record Agrees (x : Point) : Type 0 where
    depth : ℕ
    is : x.depth ≡ pos depth
    has : a x.offset ≡ Some depth

  fall_agrees : (x y : Point) → Agrees x → FallsThrough last s x y → Agrees y
  fall_agrees x y G F =
      let m = F.met.spot in
      let K = (A.kept x.offset G.depth _ G.has (met_stands last s x.offset F.met)).falls in
      record {
        depth = K.depth;
        is = F.depth ∙ ap (λ (i : ℤ). i +ℤ F.effect) G.is
            ∙ carried (effect_of m.what.opcode m.what.operand) F.effect G.depth K.depth F.net K.leads;
        has = ap a F.behind ∙ K.has (ap not F.live);
      }

  jump_agrees : (x y : Point) → Agrees x → TakesJump last s x y → Agrees y
  jump_agrees x y G J =
      let m = J.met.spot in
      let o = x.offset in
      let end = o + length (drop o s) in
      let goes : goal_of (o + 3) end m.what.operand ≡ goal_by (o + 3) end J.displacement =
      ap (goal_of (o + 3) end) J.operand in
      let K = (A.kept o G.depth _ G.has (met_stands last s o J.met)).jumps
      (λ n. goal_some (o + 3) end J.displacement (sym goes ∙ n)) in
      let t : K.target ≡ y.offset =
      ap nat_abs (goal_sum (o + 3) end K.target J.displacement (sym goes ∙ K.goes) ∙ sym J.target) in
      record {
        depth = K.depth;
        is = J.depth ∙ ap (λ (i : ℤ). i +ℤ J.effect) G.is
            ∙ carried (taken_of m.what.opcode) J.effect G.depth K.depth J.taken K.leads;
        has = ap a (sym t) ∙ K.has;
      }

  way_agrees : (x : Point) (way : List Point) → Agrees x → Follows last s x way → (y : Point) → Mem y (x ∷ way)
      → Agrees y
  way_agrees x [] G F y m = rw (Memᴰ.eq_of_singleton m) G
  way_agrees x (z ∷ way) G F y m =
      ⊎_elim (λ i. rw i G)
      (way_agrees z way (⊎_elim (fall_agrees x z G) (jump_agrees x z G) F.0) F.1 y)
      (Memᴰ.cases_cons m)

  path_agrees : (way : List Point) → Path last s st way → (y : Point) → Mem y way → Agrees y
  path_agrees [] p y m = absurd p
  path_agrees (x ∷ way) p y m =
      let S = p.0 in
      way_agrees x way
      (record { depth = S.told; is = S.depth; has = A.starts x.offset S.told S.begins }) p.1 y m

  -- a derived depth has a path

  -- the instruction at a place
  abbrev place_met : {o d : ℕ} (k : ℕ) (p : Operand) (z : ℕ) → a o ≡ Some d → decode last o (drop o s) ≡ Ok (Some (instr k p z))
      → Met last s o
  place_met {o} {d} k p z h e = record {
    spot = spot_at last o (drop o s) k p z;
    read = step_met last s 0 o k p z (A.places o d h).0.is e;
    here = refl;
  }

  falls_point : {o d q e : ℕ} {f : Flow} → a o ≡ Some d → Stands last s o f → f.falls ≡ true → Leads d f.net e
      → o + f.size ≡ q → FallsThrough last s (point o d) (point q e)
  falls_point {o} {d} {q} {e} {f} h st fl l w =
      let g = flowed last o s f st.is in
      let x = effect_of g.opcode g.operand in
      let shape = (decoded last o (drop o s) g.opcode g.operand f.size g.step).shape in
      let net : f.net ≡ change_of x = ap (λ (y : Flow). y.net) g.flow in
      let live : f.falls ≡ not (dead_maker g.opcode) = ap (λ (y : Flow). y.falls) g.flow in
      record {
        met = place_met g.opcode g.operand f.size h g.step;
        live = not_true (dead_maker g.opcode) (sym live ∙ fl);
        behind = sym w;
        effect = sub_ℕ (change_of x).up (change_of x).down;
        net = ap net_of (sym (net_is g.opcode g.operand shape));
        depth = sym (summed (change_of x).up (change_of x).down d e (leads_is d (change_of x) e (rw net at l)).0);
      }

  -- only an operand that is a displacement leads somewhere
  to_offset : (next end t : ℕ) (p : Operand) → goal_of next end p ≡ To t
      → (z : ℤ) × (p ≡ O.Offset z) × (goal_by next end z ≡ To t)
  to_offset next end t O.None e = clash cc
  to_offset next end t (O.U8 x) e = clash cc
  to_offset next end t (O.I8 x) e = clash cc
  to_offset next end t (O.U16 x) e = clash cc
  to_offset next end t (O.Offset z) e = (z, refl, e)
  to_offset next end t (O.U8U8 x y) e = clash cc
  to_offset next end t (O.U16U8 x y) e = clash cc
  to_offset next end t (O.U16U16 x y) e = clash cc
  to_offset next end t (O.U16U8U8 x y z) e = clash cc
  to_offset next end t (O.CallKw x y) e = clash cc
  to_offset next end t (O.CallAttrKw x y z) e = clash cc
  to_offset next end t (O.U16U16U8 x y z) e = clash cc

  jumps_point : {o d q e : ℕ} {f : Flow} → a o ≡ Some d → Stands last s o f → f.goal ≡ To q → Leads d f.taken e
      → TakesJump last s (point o d) (point q e)
  jumps_point {o} {d} {q} {e} {f} h st to l =
      let g = flowed last o s f st.is in
      let x = taken_of g.opcode in
      let shape = (decoded last o (drop o s) g.opcode g.operand f.size g.step).shape in
      let goal : f.goal ≡ goal_of (o + 3) (length s) g.operand = ap (λ (y : Flow). y.goal) g.flow in
      let way = to_offset (o + 3) (length s) q g.operand (sym goal ∙ to) in
      let taken : f.taken ≡ change_of x = ap (λ (y : Flow). y.taken) g.flow in
      let jumps : is_by x ≡ true = jumps_by_shape g.opcode (operand_shape g.operand) shape
      ∙ ap (λ (y : Operand). eqb (shape_number (operand_shape y)) 4) way.1 in
      record {
        met = place_met g.opcode g.operand f.size h g.step;
        displacement = way.0;
        operand = way.1;
        target = goal_sum (o + 3) (length s) q way.0 way.2;
        effect = sub_ℕ (change_of x).up (change_of x).down;
        taken = ap net_of (sym (change_is x jumps));
        depth = sym (summed (change_of x).up (change_of x).down d e (leads_is d (change_of x) e (rw taken at l)).0);
      }

  -- a path to there, and on along what follows from there
  record Reaches (y : Point) : Type 0 where
    way : List Point
    path : Path last s st way
    in_it : Mem y way

  path_to : {o d : ℕ} → Derived last s st o d → (way : List Point) → Follows last s (point o d) way
      → (y : Point) → Mem y (point o d ∷ way) → Reaches y
  path_to (start {o = o} {d = d} b) way F y m = record {
    way = point o d ∷ way;
    path = (record { told = d; begins = b; depth = refl }, F);
    in_it = m;
  }
  path_to (fall {o = o} {d = d} {q = q} {e = e} {f = f} D h fl l w) way F y m =
      path_to D (point q e ∷ way) (inl (falls_point (derived_in A D) h fl l w), F) y (mtail m)
  path_to (jump {o = o} {d = d} {q = q} {e = e} {f = f} D h g l) way F y m =
      path_to D (point q e ∷ way) (inr (jumps_point (derived_in A D) h g l), F) y (mtail m)

  -- and a start
  derived_start : {o d : ℕ} → Derived last s st o d → ((p e : ℕ) → Begins st p e → ⊥) → ⊥
  derived_start (start {o = o} {d = d} b) n = n o d b
  derived_start (fall D h fl l w) n = derived_start D n
  derived_start (jump D h g l) n = derived_start D n

  module _ (D : (o d : ℕ) → a o ≡ Some d → Derived last s st o d) (g : ℕ) (G : Greatest a g) where
    no_start : ((o d : ℕ) → Begins st o d → ⊥) → g ≡ 0
    no_start n = ⊎_elim (λ i. absurd (derived_start (D i.0 g i.1) n)) (λ i. i.0) G.assigned

    some_path : (o d : ℕ) → Begins st o d
        → (way : List Point) × (x : Point) × Path last s st way × Mem x way × (x.depth ≡ pos g)
    some_path o d b = ⊎_elim
        (λ i.
        let R = path_to (D i.0 g i.1) [] tt (point i.0 g) (mhead refl) in
        (R.way, point i.0 g, R.path, R.in_it, refl))
        (λ i. absurd (not_none (A.starts o d b) (i.1 o))) G.assigned
      where
        not_none : {x : Option ℕ} → x ≡ Some d → x ≡ None → ⊥
        not_none {x} e n = clash cc

    enough : Enough last s st g
    enough = record {
      most = λ way p x m.
          let G' = path_agrees way p x m in
          (G'.depth, G'.is, G.most x.offset G'.depth G'.has);
      reached = some_path;
      none = no_start;
    }

-- the greatest depth that a check answers is enough
pub stack_enough : StackEnough
stack_enough last s st d d' w w' a P =
    let S = accepted P refl in
    let e : S.assignment ≡ a = cc in
    subst (λ (x : Assignment). Enough last s st x.greatest) e
    (enough S.solution.smallest.assigns S.solution.derived S.assignment.greatest S.solution.greatest)
