-- Rows with the invariant, where no jump waits: their depths are the smallest assignment for their bytes and the
-- starts.
-- Assumes nothing.
use Rattle.std.specs.Prelude.{Some, Option}
use mathlib.Core.Path.{◌≡◌, refl, sym, subst, ◌∙◌}
use mathlib.Core.Logic.{◌⊎◌, inl, inr}
use mathlib.Core.List.{List, map, Memᴰ as Mem}
use Prim.Native.Nat.{ℕ, ◌+◌, ◌≤◌}
use native.Mathlib.Omega.{arith}
use lib.IntN.{sub_ℕ}
use lib.ListN.{length, length-map}
use Rattle.base.proofs.Bools.{not_true}
use Rattle.op.specs.Opcodes.{last_opcode}
use Rattle.op.specs.Depths.{taken_depth_of, low_falling, low_taken}
use Rattle.op.specs.Effects.{effect_of, taken_of, dead_maker}
use Rattle.code.specs.Depths.{Stands, Place, Falls, Jumps, Kept, Assigns, Smallest, Derived, start, fall, jump, Counts}
use Rattle.code.specs.Flow.{goal_by}
use Rattle.code.specs.declared.Flow.{Flow}
use Rattle.code.specs.declared.Goal.TheVariants.{Nowhere, To}
use Rattle.code.proofs.Assigning.{derived_in, smallest}
use Rattle.code.proofs.Moving.{goal_target}
use Rattle.code.proofs.Places.{stands_one, place_le}
use Rattle.code.specs.Tables.{jump_size}
use Rattle.checker.specs.Promise.{Listed}
use Rattle.demand.specs.Machine.{isa}
use Rattle.demand.specs.History.{waits, to, What, one, leap, Row, size, depth_at}
use Rattle.demand.specs.Demand.{cells}
use Rattle.base.proofs.Lists.{mem_map, mem_map_inv}
use Rattle.demand.proofs.Book.{Book, Dep, row, tip, Der, begin, hop, RowOK, Good}
use Rattle.demand.proofs.Book as K
use Rattle.demand.proofs.Bytes.{bytes_of, depth_sound, depth_row, depth_tip, Closed}
use Rattle.demand.proofs.Machining.{leads_of, depth_is, laws}
use Rattle.demand.proofs.Pairs.{begins_mem, mem_begins, cells_length}
use Rattle.demand.proofs.Standing.{said, said_net, said_stops, flow_at, row_stands, end_stands, row_place, end_place, rising}

module _ (b : Book isa) (g : Good isa laws b)
    (closed : (r : Row isa) → Mem r b.rows → Closed isa laws r.offset r.what) where
  abbrev pub code : List ℕ
  code = bytes_of isa b.rows

  abbrev pub depths : ℕ → Option ℕ
  depths o = depth_at isa b.rows b.len b.cur o

  stands : (r : Row isa) → Mem r b.rows
      → Stands last_opcode code r.offset (flow_at (length code) r.offset r.what)
  stands r m = row_stands b.rows b.len g.chain closed r m

  -- the depths are those of the rows and the live end

  sound : (o d : ℕ) → depths o ≡ Some d → Dep isa b o d
  sound o d h = go (depth_sound isa laws b.rows b.len b.cur o d h)
    where
      go : ((r : Row isa) × Mem r b.rows × (r.offset ≡ o) × (r.depth ≡ d)) ⊎ ((b.len ≡ o) × (b.cur ≡ Some d))
          → Dep isa b o d
      go (inl t) = row t.0 t.1 t.2 t.3
      go (inr t) = tip t.0 t.1

  complete : (o d : ℕ) → Dep isa b o d → depths o ≡ Some d
  complete o d (row r m e f) = rw (← e, ← f) (depth_row isa laws 0 b.rows b.len b.cur r g.chain m)
  complete o d (tip e f) = rw (← e, f) (depth_tip isa laws 0 b.rows b.len d g.chain)

  came : (o d : ℕ) → Dep isa b o d → Der isa b o d × (d ≤ 65535)
  came o d (row r m e f) = rw (← e, ← f) ((g.each r m).came, (g.each r m).small)
  came o d (tip e f) = rw (← e) (g.tips d f)

  place : (o d : ℕ) → Dep isa b o d → Place last_opcode code o
  place o d (row r m e f) = subst (Place last_opcode code) e (row_place b.rows b.len g.chain closed r m)
  place o d (tip e f) = subst (Place last_opcode code) e (end_place b.rows b.len g.chain closed)

  -- a jump of a row goes to its place

  goal_is : (o t e : ℕ) → Dep isa b t e → goal_by (o + jump_size) (length code) (sub_ℕ t (o + jump_size)) ≡ To t
  goal_is o t e p = goal_target (o + jump_size) (length code) t (place_le (place t e p))

  -- derivations along rows are derivations along the bytes

  down : {o d : ℕ} → Der isa b o d → Derived last_opcode code (cells b.starts) o d
  down {o} {d} (begin m) = start (mem_begins b.starts o d m)
  down {o} {d} (K.fall r m h s n q) =
      fall (down h) (stands r m) (rw (said_stops r.offset r.what, s) refl)
      (leads_of low_falling r.depth d
      (effect_of (said r.offset r.what).opcode (said r.offset r.what).operand)
      (said_net r.offset r.what r.depth d n)) q
  down {o} {d} (hop r j m h w t) =
      leap_down r.offset r.depth r.what (stands r m) (down h) ((g.each r m).lands j o d w t) w t
    where
      leap_down : (p e : ℕ) (x : What isa) → Stands last_opcode code p (flow_at (length code) p x)
          → Derived last_opcode code (cells b.starts) p e → Dep isa b o d → x ≡ leap j (to o)
          → isa.taken j e ≡ Some d → Derived last_opcode code (cells b.starts) o d
      leap_down p e x st D at ex k =
          let st' : Stands last_opcode code p (flow_at (length code) p (leap j (to o))) = rw ex at st in
          jump D st' (goal_is p o d at) (leads_of low_taken e d (taken_of j) (depth_is (taken_depth_of e j) d k))

  depths_derived : (o d : ℕ) → depths o ≡ Some d → Derived last_opcode code (cells b.starts) o d
  depths_derived o d h = down (came o d (sound o d h)).0

  -- a row is respected

  module _ (o d : ℕ) (w : What isa) (m : Mem (record { offset = o; depth = d; what = w }) b.rows) where
    ok : RowOK isa laws b (record { offset = o; depth = d; what = w })
    ok = g.each (record { offset = o; depth = d; what = w }) m

    row_falls : Falls depths (flow_at (length code) o w) o d
    row_falls =
        let n = ok.nets in
        record {
          depth = n.0;
          leads = leads_of low_falling d n.0 (effect_of (said o w).opcode (said o w).operand) (said_net o w d n.0 n.1);
          has = λ f. complete (o + size isa w) n.0 (ok.falls n.0 (sym (said_stops o w) ∙ not_true (dead_maker (said o w).opcode) f) n.1);
        }

  row_jumps : (o d : ℕ) (w : What isa) → Mem (record { offset = o; depth = d; what = w }) b.rows
      → Closed isa laws o w
      → ((flow_at (length code) o w).goal ≡ Nowhere → ⊥) → Jumps depths (flow_at (length code) o w) d
  row_jumps o d (one i) m v n = absurd (n (v.still (o + size isa (one i)) (length code)))
  row_jumps o d (leap j (waits l)) m v n = absurd v
  row_jumps o d (leap j (to t)) m v n =
      let k = ok o d (leap j (to t)) m in
      let e = k.leaps j (to t) refl in
      let at = k.lands j t e.0 refl e.1 in
      record {
        target = t;
        depth = e.0;
        goes = goal_is o t e.0 at;
        leads = leads_of low_taken d e.0 (taken_of j) (depth_is (taken_depth_of d j) e.0 e.1);
        has = complete t e.0 at;
      }

  row_kept : (r : Row isa) → Mem r b.rows
      → Kept depths (flow_at (length code) r.offset r.what) r.offset r.depth
  row_kept r m = record {
    falls = row_falls r.offset r.depth r.what m;
    jumps = row_jumps r.offset r.depth r.what m (closed r m);
  }

  kept : (o d : ℕ) (f : Flow) → Dep isa b o d → Stands last_opcode code o f → Kept depths f o d
  kept o d f (row r m e q) st =
      let same : f ≡ flow_at (length code) r.offset r.what =
      stands_one (subst (λ (x : ℕ). Stands last_opcode code x f) (sym e) st) (stands r m) in
      rw (← e, ← q, same) (row_kept r m)
  kept o d f (tip e q) st = absurd (end_stands b.rows b.len g.chain closed e st)

  pub assigned : Assigns last_opcode code (cells b.starts) depths
  assigned = record {
    places = λ o d h. (place o d (sound o d h), (came o d (sound o d h)).1);
    starts = λ o d h. complete o d (g.begins o d (begins_mem b.starts o d h));
    kept = λ o d f h st. kept o d f (sound o d h) st;
  }

  -- the depths are the smallest assignment, and what paths from the starts lead to
  pub least : Smallest last_opcode code (cells b.starts) depths
  least = smallest assigned depths_derived

  pub derives : (o d : ℕ)
      → (depths o ≡ Some d → Derived last_opcode code (cells b.starts) o d)
      × (Derived last_opcode code (cells b.starts) o d → depths o ≡ Some d)
  derives o d = (depths_derived o d, λ D. derived_in assigned D)

  -- the start list can be
  pub listed : Listed last_opcode code (cells b.starts)
  listed = record {
    even = omega (arith, cells_length b.starts);
    good = λ k l.
        let at = g.begins _ _ (begins_mem b.starts
        _ _ (record { row = k; inside = l; offset = refl; depth = refl })) in
        ((came _ _ at).1, place _ _ at);
  }

  -- the rows are counted
  pub counted : Counts last_opcode code depths (length b.rows)
  counted = record {
    starts = map (λ (r : Row isa). r.offset) b.rows;
    rising = rising b.rows b.len g.chain closed;
    each = each;
    all = λ o d f p st h. all o d f st (sound o d h);
    count = sym (length-map b.rows (λ (r : Row isa). r.offset));
  }
    where
      each : (o : ℕ) → Mem o (map (λ (r : Row isa). r.offset) b.rows)
          → (f : Flow) × (d : ℕ) × Place last_opcode code o × Stands last_opcode code o f × (depths o ≡ Some d)
      each o m =
          let q = mem_map_inv (λ (r : Row isa). r.offset) b.rows m in
          rw q.2 (
            flow_at (length code) q.0.offset q.0.what,
            q.0.depth,
            row_place b.rows b.len g.chain closed q.0 q.1,
            stands q.0 q.1,
            complete q.0.offset q.0.depth (row q.0 q.1 refl refl),
          )

      all : (o d : ℕ) (f : Flow) → Stands last_opcode code o f → Dep isa b o d
          → Mem o (map (λ (r : Row isa). r.offset) b.rows)
      all o d f st (row r m e q) = rw (← e) (mem_map (λ (r : Row isa). r.offset) m)
      all o d f st (tip e q) = absurd (end_stands b.rows b.len g.chain closed e st)
