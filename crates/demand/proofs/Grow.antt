-- More rows, starts and marks behind the others keep the invariant.
-- Assumes nothing.
use Rattle.std.specs.Prelude.{Some, Option}
use mathlib.Core.Path.{◌≡◌, refl}
use mathlib.Core.Logic.{◌⊎◌, inl, inr}
use mathlib.Core.List.{List, [], ◌∷◌, ◌++◌, Memᴰ as Mem}
use mathlib.Core.Option.{some as found}
use mathlib.Core.List.Memᴰ
use Prim.Native.Nat.{ℕ, ◌+◌, ◌≤◌}
use lib.ListN.{length, get_elem?}
use Rattle.builder.specs.declared.marks.Mark.{Mark}
use Rattle.builder.specs.declared.marks.Mark.TheVariants.{Open, Target}
use Rattle.demand.specs.Isa.{Isa}
use Rattle.demand.specs.History.{waits, leap, Row, size}
use Rattle.demand.proofs.Laws.{Laws}
use Rattle.base.proofs.Lists.{nth_left, nth_cases}
use Rattle.demand.proofs.Book.{Book, grown, Chain, Dep, row, tip, Der, RowOK, Good, Moves, ok_moves}

pub chain_append : (I : Isa) (o n : ℕ) (xs ys : List (Row I)) (m : ℕ) → Chain I o xs n → Chain I n ys m
    → Chain I o (xs ++ ys) m
chain_append I o n [] ys m h k = rw (← h) at k
chain_append I o n (x ∷ xs) ys m h k = (h.0, chain_append I (o + size I x.what) n xs ys m h.1 k)

-- what is asked of the rows, starts and marks that come behind: all of it speaks of the new book c
pub record Grows (I : Isa) (L : Laws I) (b c : Book I) (xs : List (Row I)) (ss : List (ℕ × ℕ)) (ms : List Mark)
    : Type 0 where
  pub chain : Chain I b.len xs c.len
  pub bridge : (d : ℕ) → b.cur ≡ Some d → Dep I c b.len d
  pub each : (r : Row I) → Mem r xs → RowOK I L c r
  pub tips : (d : ℕ) → c.cur ≡ Some d → Der I c c.len d × (d ≤ 65535)
  pub begins : (o d : ℕ) → Mem (o, d) ss → Dep I c o d
  pub opens : (r : Row I) (j : I.Jump) (k : ℕ) → Mem r xs → r.what ≡ leap j (waits k)
      → (d : ℕ) × (get_elem? c.marks k ≡ found (Open r.offset d)) × (I.taken j r.depth ≡ Some d)
  pub labels : (i o d : ℕ) → get_elem? ms i ≡ found (Open o d)
      → (r : Row I) × (j : I.Jump) × Mem r xs × (r.what ≡ leap j (waits (length b.marks + i))) × (r.offset ≡ o)
  pub spots : (i o d : ℕ) → get_elem? ms i ≡ found (Target o d) → Dep I c o d

module _ (I : Isa) (L : Laws I) (b : Book I) (xs : List (Row I)) (ss : List (ℕ × ℕ)) (ms : List Mark) (n : ℕ)
    (z : Option ℕ) where
  dep_grown : ((d : ℕ) → b.cur ≡ Some d → Dep I (grown I b xs ss ms n z) b.len d)
      → (o d : ℕ) → Dep I b o d → Dep I (grown I b xs ss ms n z) o d
  dep_grown br o d (row r m e f) = row r (Memᴰ.append_left xs m) e f
  dep_grown br o d (tip e f) = rw e at (br d f)

  pub moves_grown : ((d : ℕ) → b.cur ≡ Some d → Dep I (grown I b xs ss ms n z) b.len d)
      → Moves I b (grown I b xs ss ms n z)
  moves_grown br = record {
    rows = λ r m. (r, Memᴰ.append_left xs m, refl, refl, refl, refl, refl, λ j t e. e);
    starts = λ s m. Memᴰ.append_left ss m;
    deps = dep_grown br;
  }

  pub grow : Good I L b → Grows I L b (grown I b xs ss ms n z) xs ss ms → Good I L (grown I b xs ss ms n z)
  grow g w = record {
    chain = chain_append I 0 b.len b.rows xs n g.chain w.chain;
    each = λ r m. each r (Memᴰ.append_cases b.rows m);
    tips = w.tips;
    begins = λ o d m. begins o d (Memᴰ.append_cases b.starts m);
    opens = λ r j k m e. opens r j k (Memᴰ.append_cases b.rows m) e;
    labels = λ k o d e. labels k o d (nth_cases b.marks ms k e);
    spots = λ k o d e. spots k o d (nth_cases b.marks ms k e);
  }
    where
      c : Book I
      c = grown I b xs ss ms n z

      mv : Moves I b (grown I b xs ss ms n z)
      mv = moves_grown w.bridge

      each : (r : Row I) → Mem r b.rows ⊎ Mem r xs → RowOK I L (grown I b xs ss ms n z) r
      each r (inl m) = ok_moves mv (g.each r m)
      each r (inr m) = w.each r m

      begins : (o d : ℕ) → Mem (o, d) b.starts ⊎ Mem (o, d) ss → Dep I (grown I b xs ss ms n z) o d
      begins o d (inl m) = mv.deps o d (g.begins o d m)
      begins o d (inr m) = w.begins o d m

      opens : (r : Row I) (j : I.Jump) (k : ℕ) → Mem r b.rows ⊎ Mem r xs → r.what ≡ leap j (waits k)
          → (d : ℕ) × (get_elem? (b.marks ++ ms) k ≡ found (Open r.offset d)) × (I.taken j r.depth ≡ Some d)
      opens r j k (inl m) e = let p = g.opens r j k m e in (p.0, nth_left b.marks ms k p.1, p.2)
      opens r j k (inr m) e = w.opens r j k m e

      labels : (k o d : ℕ) → (get_elem? b.marks k ≡ found (Open o d)) ⊎
          ((i : ℕ) × (k ≡ length b.marks + i) × (get_elem? ms i ≡ found (Open o d)))
          → (r : Row I) × (j : I.Jump) × Mem r (b.rows ++ xs) × (r.what ≡ leap j (waits k)) × (r.offset ≡ o)
      labels k o d (inl e) = let p = g.labels k o d e in (p.0, p.1, Memᴰ.append_left xs p.2, p.3, p.4)
      labels k o d (inr t) =
          let p = w.labels t.0 o d t.2 in (p.0, p.1, Memᴰ.append_right b.rows p.2, rw t.1 p.3, p.4)

      spots : (k o d : ℕ) → (get_elem? b.marks k ≡ found (Target o d)) ⊎
          ((i : ℕ) × (k ≡ length b.marks + i) × (get_elem? ms i ≡ found (Target o d)))
          → Dep I (grown I b xs ss ms n z) o d
      spots k o d (inl e) = mv.deps o d (g.spots k o d e)
      spots k o d (inr t) = w.spots t.0 o d t.2
