-- From all that follows from the starts to the smallest assignment, its count and its greatest depth.
-- Assumes nothing.
use Rattle.code.specs.Flow.{Flowing}
use Rattle.std.specs.Prelude.{Ok, Err, Some, None}
use mathlib.Core.Path.{◌≡◌, refl, sym, ap, subst, ◌∙◌}
use mathlib.Core.Bool.{Bool, true, false, cond}
use mathlib.Core.List.Memᴰ
use mathlib.Core.List.{List, [], ◌∷◌, Memᴰ}
use mathlib.Core.Logic.{⊎_elim}
use Prim.Native.Nat.{ℕ, zero, suc, ◌+◌, ◌-◌, ◌≤◌, ◌<◌}
use native.Mathlib.Omega.{arith}
use native.Mathlib.Nat.{le_of_suc-le-suc, not-suc-le-zero}
use lib.Dec.{leb}
use lib.ListN.{length, get_or, take, drop}
use lib.Seq.{length-take-le, get_or-take}
use borrow.Author.Tests.{le-leb, leb-true}
use Rattle.code.specs.declared.Flow.{Flow}
use Rattle.code.specs.Flow.{flow_of}
use Rattle.code.specs.Depths.{Stands, Place, Assigns, Rising, Counts}
use Rattle.code.proofs.Assigning.{smallest}
use Rattle.code.proofs.Counting.{rising_lower}
use Rattle.code.proofs.Places.{stands_size, ends_over, faulty_at}
use Rattle.checker.specs.Cells.{cell, depth_in, held}
use Rattle.checker.specs.Promise.{Greatest, Solution}
use Rattle.checker.specs.Inner.{NoFault, Reached, greatest_in}
use Rattle.checker.proofs.Deepest.{greatest_in_lem}
use Rattle.checker.proofs.Holding.{depth_in_lem, in_depth}

-- the count: the offsets from i on of the cells that hold a depth

offsets : ℕ → List ℕ → List ℕ
offsets i [] = []
offsets i (x ∷ c) = cond (leb x 65535) (i ∷ offsets (suc i) c) (offsets (suc i) c)

offsets_length : (i : ℕ) (c : List ℕ) → held c ≡ length (offsets i c)
unfolding offsets held
offsets_length i [] = refl
offsets_length i (x ∷ c) = one (leb x 65535) (offsets_length (suc i) c)
  where
    one : (b : Bool) → held c ≡ length (offsets (suc i) c) → cond b 1 0 + held c ≡ length (cond b (i ∷ offsets (suc i) c) (offsets (suc i) c))
    one true e = omega arith
    one false e = omega arith

offsets_rising : (i : ℕ) (c : List ℕ) → Rising i (offsets i c)
unfolding offsets
offsets_rising i [] = tt
offsets_rising i (x ∷ c) = one (leb x 65535) (offsets_rising (suc i) c)
  where
    one : (b : Bool) → Rising (suc i) (offsets (suc i) c)
        → Rising i (cond b (i ∷ offsets (suc i) c) (offsets (suc i) c))
    one true r = (omega arith, r)
    one false r = rising_lower i (suc i) (offsets (suc i) c) (omega arith) r

-- o is j places behind i, and the cell there holds a depth
record Deep (i : ℕ) (c : List ℕ) (o : ℕ) : Type 0 where
  steps : ℕ
  is : o ≡ i + steps
  inside : steps < length c
  holds : get_or c steps 65536 ≤ 65535

deep_more : (i x : ℕ) (c : List ℕ) (o : ℕ) → Deep (suc i) c o → Deep i (x ∷ c) o
deep_more i x c o D = let h =
    D.inside in record { steps = suc D.steps; is = omega (arith, D.is); inside = omega arith; holds = D.holds }

offsets_deep : (i : ℕ) (c : List ℕ) (o : ℕ) → Memᴰ o (offsets i c) → Deep i c o
unfolding offsets
offsets_deep i [] o m = absurd (Memᴰ.not-nil m)
offsets_deep i (x ∷ c) o m = one (leb x 65535) refl (λ j. deep_more i x c o (offsets_deep (suc i) c o j)) m
  where
    one : (b : Bool) → leb x 65535 ≡ b → (Memᴰ o (offsets (suc i) c) → Deep i (x ∷ c) o)
        → Memᴰ o (cond b (i ∷ offsets (suc i) c) (offsets (suc i) c)) → Deep i (x ∷ c) o
    one true e later k = ⊎_elim
        (λ z. record { steps = 0; is = omega arith; inside = omega arith; holds = leb-true x 65535 e }) later
        (Memᴰ.cases_cons k)
    one false e later k = later k

offsets_all : (i : ℕ) (c : List ℕ) (j o : ℕ) → o ≡ i + j → j < length c → get_or c j 65536 ≤ 65535
    → Memᴰ o (offsets i c)
unfolding offsets
offsets_all i [] j o w l h = absurd (not-suc-le-zero l)
offsets_all i (x ∷ c) zero o w l h = rw (le-leb x 65535 h) (Memᴰ.head {x = i} (omega arith))
offsets_all i (x ∷ c) (suc j) o w l h =
    one (leb x 65535) (offsets_all (suc i) c j o (omega arith) (le_of_suc-le-suc l) h)
  where
    one : (b : Bool) → Memᴰ o (offsets (suc i) c)
        → Memᴰ o (cond b (i ∷ offsets (suc i) c) (offsets (suc i) c))
    one true m = Memᴰ.tail m
    one false m = m

-- an offset before the end that is a place has an instruction, where there is no fault
pub stands_by : {last : ℕ} (s : List ℕ) (o : ℕ) (x : Flowing) → flow_of last o (drop o s) ≡ x → NoFault last s
    → Place last s o → o < length s → (f : Flow) × Stands last s o f
stands_by s o (Ok (Some f)) e whole p l = (f, record { is = e })
stands_by {last} s o (Ok None) e whole p l = absurd (omega (arith, ends_over last s o e))
stands_by s o (Err q) e whole p l = absurd (whole q (faulty_at p e))

module _ {last : ℕ} {s st : List ℕ} (c : List ℕ) (whole : NoFault last s) (A : Assigns last s st (depth_in c))
    (size : length c ≡ suc (length s)) where
  fits : length (take (length s) c) ≡ length s
  fits = length-take-le (length s) c (omega arith)

  counted_each : (o : ℕ) → Memᴰ o (offsets 0 (take (length s) c))
      → (f : Flow) × (d : ℕ) × Place last s o × Stands last s o f × (depth_in c o ≡ Some d)
  counted_each o m =
      let D = offsets_deep 0 (take (length s) c) o m in
      let z : D.steps ≡ o = omega (arith, D.is) in
      let l : o < length s = omega (arith, D.inside, fits) in
      let h : cell c o ≤ 65535 = subst (λ (x : ℕ). x ≤ 65535)
      (ap (λ (x : ℕ). get_or (take (length s) c) x 65536) z ∙ get_or-take (length s) c o 65536 l) D.holds in
      let e = depth_in_lem c o (cell c o) refl h in
      let p = (A.places o (cell c o) e).0 in
      let g = stands_by s o (flow_of last o (drop o s)) refl whole p l in
      (g.0, cell c o, p, g.1, e)

  counted_all : (o d : ℕ) (f : Flow) → Place last s o → Stands last s o f → depth_in c o ≡ Some d
      → Memᴰ o (offsets 0 (take (length s) c))
  counted_all o d f p h e =
      let i = stands_size h in
      let j = in_depth c o d e in
      let l : o < length s = omega arith in
      let y = get_or-take (length s) c o 65536 l in
      offsets_all 0 (take (length s) c) o o (omega arith) (omega (arith, fits)) (omega arith)

  pub counted : Counts last s (depth_in c) (held (take (length s) c))
  counted = record {
    starts = offsets 0 (take (length s) c);
    rising = offsets_rising 0 (take (length s) c);
    each = counted_each;
    all = counted_all;
    count = offsets_length 0 (take (length s) c);
  }

-- all that follows from the starts is the solution
pub solution : {last : ℕ} {s st c : List ℕ} {n k g : ℕ} → NoFault last s → Reached last s st c n
    → length c ≡ suc (length s) → k ≡ held (take (length c - 1) c) → g ≡ greatest_in c
    → Solution last s st c (record { count = k; greatest = g })
solution {last} {s} {c} whole A e h z =
    let y : length c - 1 ≡ length s = omega arith in
    record {
      size = e;
      smallest = smallest A.assigns A.sound.derived;
      others = A.sound.small;
      derived = A.sound.derived;
      count = subst (Counts last s (depth_in c)) (sym (h ∙ ap (λ (n : ℕ). held (take n c)) y))
          (counted c whole A.assigns e);
      greatest = subst (Greatest (depth_in c)) (sym z) (greatest_in_lem c A.sound.small);
    }
