-- A patch keeps the invariant.
-- Assumes nothing.
use Rattle.std.specs.Prelude.{Some}
use mathlib.Core.Path.{◌≡◌, refl, sym, ◌∙◌}
use mathlib.Core.Bool.{Bool, true, false, cond}
use mathlib.Core.Logic.{◌≢◌}
use mathlib.Core.List.{List, [], ◌∷◌, map, Memᴰ as Mem}
use mathlib.Core.Option.{some as found}
use Prim.Native.Nat.{ℕ, ◌+◌, ◌≤◌}
use lib.Dec.{eqb}
use lib.ListN.{set, get_elem?}
use borrow.Author.Tests.{eqb-true, eqb-false, eq-eqb, ne_eqb}
use Rattle.base.proofs.Bools.{clash}
use Rattle.builder.specs.Marks.{near}
use Rattle.builder.specs.declared.marks.Mark.{Mark}
use Rattle.builder.specs.declared.marks.Mark.TheVariants.{Open, Patched, Target}
use Rattle.demand.specs.Isa.{Isa}
use Rattle.demand.specs.History.{waits, to, What, one, leap, Row, size, settled_aim, resolve}
use Rattle.demand.proofs.Laws.{Laws}
use Rattle.base.proofs.Lists.{nth_set_same, nth_set_other, mem_map, mem_map_inv}
use Rattle.demand.proofs.Book.{Book, net, stops, patched, Chain, Dep, row, tip, Der, hop, RowOK, Good, Moves, der_moves, ok_moves}

-- the jump that is aimed keeps its size and effects
module _ (I : Isa) (k t : ℕ) where
  aim_size : (w : What I) → size I (settled_aim I k t w) ≡ size I w
  aim_size (one p) = refl
  aim_size (leap j (waits l)) = refl
  aim_size (leap j (to u)) = refl

  aim_net : (w : What I) → net I (settled_aim I k t w) ≡ net I w
  aim_net (one p) = refl
  aim_net (leap j (waits l)) = refl
  aim_net (leap j (to u)) = refl

  aim_stops : (w : What I) → stops I (settled_aim I k t w) ≡ stops I w
  aim_stops (one p) = refl
  aim_stops (leap j (waits l)) = refl
  aim_stops (leap j (to u)) = refl

  pub chain_resolve : (o : ℕ) (rs : List (Row I)) (n : ℕ) → Chain I o rs n → Chain I o (map (resolve I k t) rs) n
  chain_resolve o [] n h = h
  chain_resolve o (r ∷ rs) n h = (h.0, rw (aim_size r.what) (chain_resolve (o + size I r.what) rs n h.1))

  -- a jump that still waits waited before, and for another label
  aim_open : (w : What I) (j : I.Jump) (l : ℕ) → settled_aim I k t w ≡ leap j (waits l)
      → (w ≡ leap j (waits l)) × (l ≢ k)
  aim_open (one p) j l h = clash cc
  aim_open (leap i (to u)) j l h = clash cc
  aim_open (leap i (waits m)) j l h = go (eqb m k) refl h
    where
      go : (x : Bool) → eqb m k ≡ x → ◌≡◌ {A = What I} (leap i (cond x (to t) (waits m))) (leap j (waits l))
          → (◌≡◌ {A = What I} (leap i (waits m)) (leap j (waits l))) × (l ≢ k)
      go true e q = clash cc
      go false e q = (q, λ c. eqb-false m k e (let y : l ≡ m = cc in cc))

module _ (I : Isa) (L : Laws I) (b : Book I) (g : Good I L b) (k o d : ℕ) (mk : get_elem? b.marks k ≡ found (Open o d))
    (near : near o b.len ≡ true) (meets : (e : ℕ) → b.cur ≡ Some e → e ≡ d) where
  pub moves_patched : Moves I b (patched I b k o d)
  moves_patched = record {
    rows = λ r m. (
      resolve I k b.len r,
      mem_map (resolve I k b.len) m,
      refl,
      refl,
      aim_size I k b.len r.what,
      aim_net I k b.len r.what,
      aim_stops I k b.len r.what,
      λ j t h. rw h,
    );
    starts = λ s m. m;
    deps = deps;
  }
    where
      deps : (p e : ℕ) → Dep I b p e → Dep I (patched I b k o d) p e
      deps p e (row r m q f) = row (resolve I k b.len r) (mem_map (resolve I k b.len) m) q f
      deps p e (tip q f) = let z = meets e f in tip q (cc)

  -- the label's jump stands at o and takes the depth d
  waiting : (r : Row I) (j : I.Jump) → Mem r b.rows → r.what ≡ leap j (waits k)
      → (r.offset ≡ o) × (I.taken j r.depth ≡ Some d)
  waiting r j m h = let q = g.opens r j k m h in let a = q.1 in let c = q.2 in let f : q.0 ≡ d = cc in (cc, rw f at c)

  ok_resolve : (p e : ℕ) (w : What I) → Mem (record { offset = p; depth = e; what = w }) b.rows
      → RowOK I L (patched I b k o d) (record { offset = p; depth = e; what = w })
      → RowOK I L (patched I b k o d) (record { offset = p; depth = e; what = settled_aim I k b.len w })
  ok_resolve p e (one q) m x = x
  ok_resolve p e (leap j (to u)) m x = x
  ok_resolve p e (leap j (waits l)) m x = go (eqb l k) refl
    where
      go : (y : Bool) → eqb l k ≡ y → RowOK I L (patched I b k o d)
          (record { offset = p; depth = e; what = leap j (cond y (to b.len) (waits l)) })
      go false h = x
      go true h = let lk = eqb-true l k h in
          let wt = waiting (record { offset = p; depth = e; what = leap j (waits l) }) j m (rw lk) in
          record {
            fine = (x.fine, rw wt.0 near);
            small = x.small;
            came = x.came;
            nets = x.nets;
            falls = x.falls;
            leaps = λ i u q. let s : i ≡ j = cc in (d, rw s wt.1);
            lands = λ i u f q n. let s : i ≡ j = cc in let v : b.len ≡ u = cc in
                let n' : I.taken j e ≡ Some f = rw s at n in let wt1 = wt.1 in let c : Some d ≡ Some f = cc in tip v c;
          }

  pub patch_good : Good I L (patched I b k o d)
  patch_good = record {
    chain = chain_resolve I k b.len 0 b.rows b.len g.chain;
    each = λ r m. let q = mem_map_inv (resolve I k b.len) b.rows m in
        rw q.2 (ok_resolve q.0.offset q.0.depth q.0.what q.1 (ok_moves moves_patched (g.each q.0 q.1)));
    tips = λ t h. let c : d ≡ t = cc in rw (← c) (came, small);
    begins = λ p e m. moves_patched.deps p e (g.begins p e m);
    opens = λ r j l m h. opens r j l m h;
    labels = labels;
    spots = λ l p e h. spots l p e h;
  }
    where
      lb : (r : Row I) × (j : I.Jump) × Mem r b.rows × (r.what ≡ leap j (waits k)) × (r.offset ≡ o)
      lb = g.labels k o d mk

      wt : (lb.0.offset ≡ o) × (I.taken lb.1 lb.0.depth ≡ Some d)
      wt = waiting lb.0 lb.1 lb.2 lb.3

      small : d ≤ 65535
      small = L.taken_small lb.1 lb.0.depth d wt.1

      came : Der I (patched I b k o d) b.len d
      came = hop {o = b.len} {d = d} (resolve I k b.len lb.0) lb.1 (mem_map (resolve I k b.len) lb.2)
          (der_moves moves_patched (g.each lb.0 lb.2).came) (rw (lb.3, eq-eqb k k refl)) wt.1

      other : (l : ℕ) → l ≢ k → get_elem? (set b.marks k (Patched o d)) l ≡ get_elem? b.marks l
      other l n = nth_set_other b.marks k l (Patched o d) n

      opens : (r : Row I) (j : I.Jump) (l : ℕ) → Mem r (map (resolve I k b.len) b.rows)
          → r.what ≡ leap j (waits l)
          → (e : ℕ) × (get_elem? (set b.marks k (Patched o d)) l ≡ found (Open r.offset e))
          × (I.taken j r.depth ≡ Some e)
      opens r j l m h =
          let q = mem_map_inv (resolve I k b.len) b.rows m in
          let h' : settled_aim I k b.len q.0.what ≡ leap j (waits l) = rw q.2 at h in
          let a = aim_open I k b.len q.0.what j l h' in
          let c = g.opens q.0 j l q.1 a.0 in
          rw q.2 (c.0, other l a.1 ∙ c.1, c.2)

      apart : (l p e : ℕ) → (m : Mark) → (m ≡ Patched o d → ⊥) → get_elem? (set b.marks k (Patched o d)) l ≡ found m
          → l ≢ k
      apart l p e m ne h c =
          let s = nth_set_same b.marks k (Patched o d) mk in
          let h' : get_elem? (set b.marks k (Patched o d)) k ≡ found m = rw c at h in ne (cc)

      labels : (l p e : ℕ) → get_elem? (set b.marks k (Patched o d)) l ≡ found (Open p e)
          → (r : Row I) × (j : I.Jump) × Mem r (map (resolve I k b.len) b.rows) × (r.what ≡ leap j (waits l))
          × (r.offset ≡ p)
      labels l p e h =
          let n = apart l p e (Open p e) (λ c. clash cc) h in
          let q = g.labels l p e (sym (other l n) ∙ h) in
          (resolve I k b.len q.0, q.1, mem_map (resolve I k b.len) q.2, rw (q.3, ne_eqb l k n), q.4)

      spots : (l p e : ℕ) → get_elem? (set b.marks k (Patched o d)) l ≡ found (Target p e)
          → Dep I (patched I b k o d) p e
      spots l p e h =
          let n = apart l p e (Target p e) (λ c. clash cc) h in
          moves_patched.deps p e (g.spots l p e (sym (other l n) ∙ h))
