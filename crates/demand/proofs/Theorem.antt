-- Demand 3, proved: specs/Demand.antt has the statement.
-- Assumes nothing.
use Rattle.std.specs.Prelude.{Result, Ok, Some, None, Option}
use mathlib.Core.Path.{◌≡◌, sym, ap, ◌∙◌}
use mathlib.Core.List.{List, Memᴰ as Mem}
use Prim.Native.Nat.{ℕ, ◌≤◌, ◌<◌}
use native.Mathlib.Omega.{arith}
use lib.ListN.{length}
use lib.Seq.{length-take-le}
use Rattle.base.proofs.Bools.{clash}
use Rattle.op.specs.Opcodes.{last_opcode}
use Rattle.op.specs.declared.Refusal.{Refusal}
use Rattle.builder.specs.State.{Kept, kept}
use Rattle.builder.specs.Regions.{new_of}
use Rattle.code.specs.Tables.{code_limit}
use Rattle.checker.specs.declared.Assignment.{Assignment}
use Rattle.checker.specs.Promise.{Promise}
use Rattle.demand.specs.Machine.{isa}
use Rattle.demand.specs.History.{waits, leap, Row, History}
use Rattle.demand.specs.World.{World}
use Rattle.demand.specs.Demand.{InDepth, begun, finished, region_starts, cells, AcceptsAs, Demand, Demanded}
use Rattle.demand.proofs.Bytes.{bytes_of, depth_row, Closed}
use Rattle.demand.proofs.Machining.{laws}
use Rattle.demand.proofs.Pairs.{cells_tab}
use Rattle.demand.proofs.Standing.{reads_rows}
use Rattle.demand.proofs.Views.{new_view}
use Rattle.demand.proofs.Within.{new_within}
use Rattle.demand.proofs.Ties.{Tied, Small, book, fresh, fresh_tied, tied_end}
use Rattle.demand.proofs.Steps.{Within, view, taken_tied}
use Rattle.demand.proofs.Building.{Builds, builds, open_any, closed_by}
use Rattle.demand.proofs.Answering.{smallest_at, derived_at, checked_at, built_promise}

module _ (w w' : World) (h : History) (t : Tied (view w) h) (B : Builds w w') where
  -- every label is patched
  settled : (r : Row isa) → Mem r h.rows → (j k : ℕ) → r.what ≡ leap j (waits k) → ⊥
  settled r m j k e =
      let q = t.good.opens r j k m e in
      let z = open_any w.state.core.marks w.marks k r.offset q.0 q.1 in
      let y = B.closed in
      clash cc

  closed : (r : Row isa) → Mem r h.rows → Closed isa laws r.offset r.what
  closed r m = closed_by r.offset r.what (t.good.each r m).fine (settled r m)

-- a world whose view is tied to a history, and the one that `build` leaves
finish : (w w' : World) (h : History) → Within w → Tied (view w) h → Builds w w' → Demand w w' h
finish w w' h i t B =
    let g = t.good in
    let b = book (view w) h in
    let c = closed w w' h t B in
    let ec : finished w ≡ bytes_of isa h.rows = t.code in
    let es : region_starts w ≡ cells (view w).starts = cells_tab w.state.starts w.starts i.starts in
    let en : length (finished w) ≡ h.end = tied_end (view w) h t in
    let short : h.end ≤ code_limit =
    omega (arith, B.limit, length-take-le w.state.core.code w.code i.code) in
    let accepts : (d d' v v' : List ℕ) (r : Result Assignment Refusal) → length (finished w') < length d
    → length (finished w') < length v
    → Promise last_opcode (finished w') (region_starts w') d d' v v' r → AcceptsAs w' h r d' =
    rw (B.state, B.code, B.starts)
    (checked_at b g c (finished w) (region_starts w) (length (finished w)) ec es en short) in
    record {
      unchanged = (B.state, B.code, B.starts);
      reads = rw (B.state, B.code, en, ec) (reads_rows h.rows h.end g.chain c);
      settled = settled w w' h t B;
      starts = rw (B.state, B.starts) (es ∙ ap cells t.starts);
      before = λ r m. rw (B.state, B.code, en)
          (depth_row isa laws 0 h.rows h.end w.state.core.depth r g.chain m);
      smallest = rw (B.state, B.code, B.starts)
          (smallest_at b g c (finished w) (region_starts w) (length (finished w)) ec es en);
      derived = rw (B.state, B.code, B.starts)
          (derived_at b g c (finished w) (region_starts w) (length (finished w)) ec es en);
      checks = λ κs code starts entry exit work left r k room space.
          accepts entry.now exit.now work.now left.now r room space (rw (code.holds, starts.holds) at k);
      checks_built = λ κs code starts entry exit work left r k room space.
          accepts entry.now exit.now work.now left.now r room space (rw (B.state, B.code, B.starts) (
          built_promise w.state w.code w.starts entry.now exit.now work.now left.now r i.code
          B.limit i.starts
          (rw (code.holds, starts.holds, B.state, B.code, B.starts) at k)));
    }

small : (told : Option ℕ) → InDepth told → Small told
small None f = tt
small (Some d) f = omega arith

-- Demand 3
pub demand_3 : Demanded
demand_3 told w F x T fill w' m =
    let e : kept (Ok w.state) F.exit.now ≡ new_of told F.entry.now = F.keeps in
    let a : (new_of told F.entry.now).answer ≡ Ok w.state = sym (ap (λ (k : Kept). k.answer) e) in
    let s : (new_of told F.entry.now).cells ≡ w.starts = sym (ap (λ (k : Kept). k.cells) e) ∙ F.starts in
    let n = new_within told F.entry.now w.state a in
    let within : Within w = record { code = omega (arith, n.0); starts = rw s at n.1 } in
    let v : view w ≡ fresh told = rw s at (new_view told w.code w.marks F.entry.now w.state a) in
    let q = taken_tied (begun told w) x T within (rw v (fresh_tied told (small told F.fits))) in
    finish x.world w' x.history q.0 q.1 (builds fill x.world w' m)
