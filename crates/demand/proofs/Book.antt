-- The builder without its bytes: rows of what was accepted while live, how they grow and are patched, and the
-- invariant of that.
-- Assumes nothing.
use Rattle.std.specs.Prelude.{Some, None, Option}
use mathlib.Core.Path.{◌≡◌}
use mathlib.Core.Bool.{Bool, true, false}
use mathlib.Core.List.{List, [], ◌∷◌, ◌++◌, map, Memᴰ as Mem}
use mathlib.Core.Option.{some as found}
use Prim.Native.Nat.{ℕ, ◌+◌, ◌≤◌}
use lib.ListN.{set, get_elem?}
use Rattle.builder.specs.Marks.{near}
use Rattle.builder.specs.declared.marks.Mark.{Mark}
use Rattle.builder.specs.declared.marks.Mark.TheVariants.{Open, Patched, Target}
use Rattle.demand.specs.Isa.{Isa}
use Rattle.demand.specs.History.{Aim, waits, to, What, one, leap, Row, size, resolve}
use Rattle.demand.proofs.Laws.{Laws}

pub record Book (I : Isa) : Type 0 where
  pub rows : List (Row I)
  pub len : ℕ
  pub cur : Option ℕ
  pub starts : List (ℕ × ℕ)
  pub marks : List Mark

module _ (I : Isa) where
  abbrev pub net : What I → ℕ → Option ℕ
  net (one p) d = I.net p d
  net (leap j g) d = I.jnet j d

  abbrev pub stops : What I → Bool
  stops (one p) = I.stops p
  stops (leap j g) = I.jstops j

  -- the depth behind an instruction
  abbrev pub after : Bool → Option ℕ → Option ℕ
  after true e = None
  after false None = None
  after false (Some d) = Some d

  -- more rows, starts and marks behind the others
  abbrev pub grown : Book I → List (Row I) → List (ℕ × ℕ) → List Mark → ℕ → Option ℕ → Book I
  grown b xs ss ms n c =
      record { rows = b.rows ++ xs; len = n; cur = c; starts = b.starts ++ ss; marks = b.marks ++ ms }

  -- the instruction `w` behind the others, at depth d
  abbrev pub push : Book I → ℕ → What I → List Mark → Book I
  push b d w ms = grown b (record { offset = b.len; depth = d; what = w } ∷ []) [] ms (b.len + size I w)
      (after (stops w) (net w d))

  -- the label k, whose jump stands at o with the taken depth d, is patched to the end
  abbrev pub patched : Book I → ℕ → ℕ → ℕ → Book I
  patched b k o d = record {
    rows = map (resolve I k b.len) b.rows;
    len = b.len;
    cur = Some d;
    starts = b.starts;
    marks = set b.marks k (Patched o d);
  }

-- offsets follow one another from o to n
abbrev pub Chain : (I : Isa) → ℕ → List (Row I) → ℕ → Type 0
Chain I o [] n = o ≡ n
Chain I o (r ∷ rs) n = (r.offset ≡ o) × Chain I (o + size I r.what) rs n

-- what can be written stands at o; a jump that waits for its label can be patched
abbrev pub WValid : (I : Isa) (L : Laws I) → ℕ → What I → Type 0
WValid I L o (one p) = L.valid p
WValid I L o (leap j (waits k)) = L.jumps j
WValid I L o (leap j (to t)) = L.jumps j × (near o t ≡ true)

-- the depth d stands at o: an instruction's, or the live end's
pub data Dep (I : Isa) (b : Book I) (o d : ℕ) : Type 0 where
  row : (r : Row I) → Mem r b.rows → r.offset ≡ o → r.depth ≡ d → Dep I b o d
  tip : b.len ≡ o → b.cur ≡ Some d → Dep I b o d

-- the depth d comes to o from the starts, along fall-throughs and jumps
pub data Der (I : Isa) (b : Book I) : ℕ → ℕ → Type 0 where
  begin : {o d : ℕ} → Mem (o, d) b.starts → Der I b o d
  fall : {o d : ℕ} (r : Row I) → Mem r b.rows → Der I b r.offset r.depth → stops I r.what ≡ false
      → net I r.what r.depth ≡ Some d → r.offset + size I r.what ≡ o → Der I b o d
  hop : {o d : ℕ} (r : Row I) (j : I.Jump) → Mem r b.rows → Der I b r.offset r.depth → r.what ≡ leap j (to o)
      → I.taken j r.depth ≡ Some d → Der I b o d

pub record RowOK (I : Isa) (L : Laws I) (b : Book I) (r : Row I) : Type 0 where
  pub fine : WValid I L r.offset r.what
  pub small : r.depth ≤ 65535
  pub came : Der I b r.offset r.depth
  pub nets : (e : ℕ) × (net I r.what r.depth ≡ Some e)
  pub falls : (e : ℕ) → stops I r.what ≡ false → net I r.what r.depth ≡ Some e
      → Dep I b (r.offset + size I r.what) e
  pub leaps : (j : I.Jump) (g : Aim) → r.what ≡ leap j g → (e : ℕ) × (I.taken j r.depth ≡ Some e)
  pub lands : (j : I.Jump) (t e : ℕ) → r.what ≡ leap j (to t) → I.taken j r.depth ≡ Some e → Dep I b t e

pub record Good (I : Isa) (L : Laws I) (b : Book I) : Type 0 where
  pub chain : Chain I 0 b.rows b.len
  pub each : (r : Row I) → Mem r b.rows → RowOK I L b r
  pub tips : (d : ℕ) → b.cur ≡ Some d → Der I b b.len d × (d ≤ 65535)
  pub begins : (o d : ℕ) → Mem (o, d) b.starts → Dep I b o d
  pub opens : (r : Row I) (j : I.Jump) (k : ℕ) → Mem r b.rows → r.what ≡ leap j (waits k)
      → (d : ℕ) × (get_elem? b.marks k ≡ found (Open r.offset d)) × (I.taken j r.depth ≡ Some d)
  pub labels : (k o d : ℕ) → get_elem? b.marks k ≡ found (Open o d)
      → (r : Row I) × (j : I.Jump) × Mem r b.rows × (r.what ≡ leap j (waits k)) × (r.offset ≡ o)
  pub spots : (k o d : ℕ) → get_elem? b.marks k ≡ found (Target o d) → Dep I b o d

-- what every event keeps: rows stay where they are with their edges, starts stay, depths stay
pub record Moves (I : Isa) (b c : Book I) : Type 0 where
  pub rows : (r : Row I) → Mem r b.rows → (s : Row I) × Mem s c.rows × (s.offset ≡ r.offset)
      × (s.depth ≡ r.depth)
      × (size I s.what ≡ size I r.what) × (net I s.what ≡ net I r.what)
      × (stops I s.what ≡ stops I r.what)
      × ((j : I.Jump) (t : ℕ) → r.what ≡ leap j (to t) → s.what ≡ leap j (to t))
  pub starts : (s : ℕ × ℕ) → Mem s b.starts → Mem s c.starts
  pub deps : (o d : ℕ) → Dep I b o d → Dep I c o d

module _ {I : Isa} {b c : Book I} (m : Moves I b c) where
  pub der_moves : {o d : ℕ} → Der I b o d → Der I c o d
  der_moves (begin h) = begin (m.starts _ h)
  der_moves {o} {d} (fall r h e s n q) =
      let k = m.rows r h in
      fall {o = o} {d = d} k.0 k.1 (rw (k.2, k.3) (der_moves e)) (cc) (rw (k.5, k.3) n) (rw (k.2, k.4) q)
  der_moves {o} {d} (hop r j h e w t) =
      let k = m.rows r h in
      hop {o = o} {d = d} k.0 j k.1 (rw (k.2, k.3) (der_moves e)) (k.7 j _ w) (rw k.3 t)

  pub ok_moves : {L : Laws I} {r : Row I} → RowOK I L b r → RowOK I L c r
  ok_moves {L} {r} k = record {
    fine = k.fine;
    small = k.small;
    came = der_moves k.came;
    nets = k.nets;
    falls = λ e s n. m.deps _ _ (k.falls e s n);
    leaps = k.leaps;
    lands = λ j t e w n. m.deps _ _ (k.lands j t e w n);
  }
