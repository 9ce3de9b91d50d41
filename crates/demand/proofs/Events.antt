-- Each single call keeps the invariant.
-- Assumes nothing.
use Rattle.std.specs.Prelude.{Some, None, Option}
use mathlib.Core.Path.{◌≡◌, refl, sym, ap}
use mathlib.Core.Bool.{Bool, true, false}
use mathlib.Core.List.Memᴰ.{head as mhead}
use mathlib.Core.List.{List, [], ◌∷◌, ◌++◌, Memᴰ as Mem}
use mathlib.Core.Option.{some as found}
use mathlib.Core.List.Memᴰ
use Prim.Native.Nat.{ℕ, zero, suc, ◌+◌, ◌≤◌}
use native.Mathlib.Omega.{arith}
use lib.ListN.{length, get_elem?}
use Rattle.base.proofs.Bools.{clash}
use Rattle.builder.specs.Marks.{near}
use Rattle.builder.specs.declared.marks.Mark.{Mark}
use Rattle.builder.specs.declared.marks.Mark.TheVariants.{Open, Target}
use Rattle.demand.specs.Isa.{Isa}
use Rattle.demand.specs.History.{Aim, waits, to, What, one, leap, Row, size}
use Rattle.demand.proofs.Laws.{Laws}
use Rattle.base.proofs.Lists.{nth_seam}
use Rattle.demand.proofs.Book.{Book, net, stops, after, grown, push, WValid, Dep, row, tip, Der, begin, fall, RowOK, Good, Moves, der_moves}
use Rattle.demand.proofs.Grow.{grow, moves_grown}

pub after_live : (I : Isa) (s : Bool) (e : Option ℕ) (d : ℕ) → after I s e ≡ Some d → (s ≡ false) × (e ≡ Some d)
after_live I true e d h = clash cc
after_live I false None d h = clash cc
after_live I false (Some e) d h = (refl, cc)

pub net_small : (I : Isa) (L : Laws I) (w : What I) (d e : ℕ) → net I w d ≡ Some e → e ≤ 65535
net_small I L (one p) d e h = L.net_small p d e h
net_small I L (leap j g) d e h = L.jnet_small j d e h

-- no mark, or the one of an open label
abbrev pub Marked : (I : Isa) → Book I → ℕ → What I → List Mark → Type 0
Marked I b d w ms = ((j : I.Jump) (k : ℕ) → w ≡ leap j (waits k)
    → (t : ℕ) × (get_elem? (b.marks ++ ms) k ≡ found (Open b.len t)) × (I.taken j d ≡ Some t))
    × ((i o t : ℕ) → get_elem? ms i ≡ found (Open o t)
    → (j : I.Jump) × (w ≡ leap j (waits (length b.marks + i))) × (b.len ≡ o))
    × ((i o t : ℕ) → get_elem? ms i ≡ found (Target o t) → ⊥)

module _ (I : Isa) (L : Laws I) (b : Book I) (g : Good I L b) (d : ℕ) (l : b.cur ≡ Some d) where
  pub push_good : (w : What I) (ms : List Mark) → WValid I L b.len w → (e : ℕ) → net I w d ≡ Some e
      → ((j : I.Jump) (u : Aim) → w ≡ leap j u → (t : ℕ) × (I.taken j d ≡ Some t))
      → ((j : I.Jump) (o t : ℕ) → w ≡ leap j (to o) → I.taken j d ≡ Some t → Dep I b o t)
      → Marked I b d w ms → Good I L (push I b d w ms)
  push_good w ms v e n lp ld mk =
      grow I L b (r ∷ []) [] ms (b.len + size I w) (after I (stops I w) (net I w d)) g (record {
        chain = (refl, refl);
        bridge = bridge;
        each = λ q m. rw (Memᴰ.eq_of_singleton m) ok;
        tips = λ t h. tips t h;
        begins = λ o t m. absurd (Memᴰ.not-nil m);
        opens = λ q j k m h. rw (Memᴰ.eq_of_singleton m)
            (mk.0 j k (rw (ap what' (Memᴰ.eq_of_singleton m)) at h));
        labels = λ i o t h. let p = mk.1 i o t h in (r, p.0, mhead refl, p.1, p.2);
        spots = λ i o t h. absurd (mk.2 i o t h);
      })
    where
      r : Row I
      r = record { offset = b.len; depth = d; what = w }

      what' : Row I → What I
      what' q = q.what

      mem : Mem r (b.rows ++ (r ∷ []))
      mem = Memᴰ.append_right b.rows (mhead refl)

      bridge : (t : ℕ) → b.cur ≡ Some t → Dep I (push I b d w ms) b.len t
      bridge t h = row r mem refl (cc)

      mv : Moves I b (push I b d w ms)
      mv = moves_grown I L b (r ∷ []) [] ms (b.len + size I w) (after I (stops I w) (net I w d)) bridge

      came : Der I (push I b d w ms) b.len d
      came = der_moves mv (g.tips d l).0

      tips : (t : ℕ) → after I (stops I w) (net I w d) ≡ Some t
          → Der I (push I b d w ms) (b.len + size I w) t × (t ≤ 65535)
      tips t h = let k = after_live I (stops I w) (net I w d) t h in (fall r mem came k.0 k.1 refl, net_small I L w d t k.1)

      ok : RowOK I L (push I b d w ms) r
      ok = record {
        fine = v;
        small = (g.tips d l).1;
        came = came;
        nets = (e, n);
        falls = λ t s q. tip refl (rw (s, q) refl);
        leaps = lp;
        lands = λ j o t h k. mv.deps o t (ld j o t h k);
      }

  -- the single calls

  pub append_good : (p : I.Plain) → L.valid p → (e : ℕ) → I.net p d ≡ Some e → Good I L (push I b d (one p) [])
  append_good p v e n = push_good (one p) [] v e n
      (λ j u h. clash cc)
      (λ j o t h k. clash cc) (
        (λ j k h. clash cc),
        (λ i o t h. clash cc),
        (λ i o t h. clash cc),
      )

  pub jump_good : (j : I.Jump) (o t : ℕ) → near b.len o ≡ true → (e : ℕ) → I.jnet j d ≡ Some e
      → I.taken j d ≡ Some t
      → Dep I b o t → Good I L (push I b d (leap j (to o)) [])
  jump_good j o t v e n k at = push_good (leap j (to o)) [] (L.jnet_jumps j d e n, v) e n
      (λ i u h. let q : i ≡ j = cc in (t, rw q k))
      (λ i u f h q. let p : u ≡ o = cc in let p' : i ≡ j = cc in let q' : I.taken j d ≡ Some f = rw p' at q in
      let r : f ≡ t = cc in rw (p, r) at') (
        (λ i u h. clash cc),
        (λ i u f h. clash cc),
        (λ i u f h. clash cc),
      )
    where
      at' : Dep I b o t
      at' = at

  one_mark : (a m : Mark) (i : ℕ) → get_elem? (a ∷ []) i ≡ found m → (i ≡ 0) × (m ≡ a)
  one_mark a m zero h = (refl, cc)
  one_mark a m (suc i) h = clash cc

  pub label_good : (j : I.Jump) (t e : ℕ) → I.jnet j d ≡ Some e → I.taken j d ≡ Some t
      → Good I L (push I b d (leap j (waits (length b.marks))) (Open b.len t ∷ []))
  label_good j t e n k =
      push_good (leap j (waits (length b.marks))) (Open b.len t ∷ []) (L.jnet_jumps j d e n) e n
      (λ i u h. let q : i ≡ j = cc in (t, rw q k))
      (λ i u f h q. clash cc) (
        (λ i u h. let q : i ≡ j = cc in let q' : u ≡ length b.marks = cc in
            (t, rw q' (nth_seam b.marks (Open b.len t) []), rw q k)),
        (λ i o f h. let q = one_mark (Open b.len t) (Open o f) i h in let q' = q.0 in let q'' = q.1 in
            (j, ap (λ (x : ℕ). leap j (waits x)) (omega arith), cc)),
        (λ i o f h. let q = one_mark (Open b.len t) (Target o f) i h in let q'' = q.1 in clash cc),
      )

  pub target_good : Good I L (grown I b [] [] (Target b.len d ∷ []) b.len (Some d))
  target_good = grow I L b [] [] (Target b.len d ∷ []) b.len (Some d) g (record {
    chain = refl;
    bridge = bridge;
    each = λ r m. absurd (Memᴰ.not-nil m);
    tips = λ t h. let q : d ≡ t = cc in rw (← q) (der_moves mv (g.tips d l).0, (g.tips d l).1);
    begins = λ o t m. absurd (Memᴰ.not-nil m);
    opens = λ r j k m h. absurd (Memᴰ.not-nil m);
    labels = λ i o t h. let q = one_mark (Target b.len d) (Open o t) i h in let q'' = q.1 in clash cc;
    spots = λ i o t h. let q = one_mark (Target b.len d) (Target o t) i h in let q'' = q.1 in tip (cc) (cc);
  })
    where
      bridge : (t : ℕ) → b.cur ≡ Some t → Dep I (grown I b [] [] (Target b.len d ∷ []) b.len (Some d)) b.len t
      bridge t h = tip refl (cc)

      mv : Moves I b (grown I b [] [] (Target b.len d ∷ []) b.len (Some d))
      mv = moves_grown I L b [] [] (Target b.len d ∷ []) b.len (Some d) bridge

module _ (I : Isa) (L : Laws I) (b : Book I) (g : Good I L b) where
  pub region_good : (d : ℕ) → b.cur ≡ None → d ≤ 65535
      → Good I L (grown I b [] ((b.len, d) ∷ []) [] b.len (Some d))
  region_good d l s = grow I L b [] ((b.len, d) ∷ []) [] b.len (Some d) g (record {
    chain = refl;
    bridge = λ t h. clash cc;
    each = λ r m. absurd (Memᴰ.not-nil m);
    tips = λ t h. let q : d ≡ t = cc in rw (← q) (begin (Memᴰ.append_right b.starts (mhead refl)), s);
    begins = λ o t m. let q = Memᴰ.eq_of_singleton m in tip (sym (ap (λ (x : ℕ × ℕ). x.0) q)) (sym (ap (λ (x : ℕ × ℕ). Some x.1) q));
    opens = λ r j k m h. absurd (Memᴰ.not-nil m);
    labels = λ i o t h. clash cc;
    spots = λ i o t h. clash cc;
  })
