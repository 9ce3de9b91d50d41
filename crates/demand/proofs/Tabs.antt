-- Laws of tables as lists of rows: a row more at the used end, and one cell that changes.
-- Assumes nothing.
use mathlib.Core.Path.{◌≡◌, refl, sym, ap, ◌∙◌}
use mathlib.Core.Bool.{Bool, true, false, cond}
use mathlib.Core.Logic.{◌≢◌}
use mathlib.Core.List.{List, [], ◌∷◌, ◌++◌, append_assoc}
use mathlib.Core.Option.{some as found}
use Prim.Native.Nat.{ℕ, zero, suc, ◌+◌, ◌*◌, ◌/◌, ◌%◌, ◌≤◌, ◌<◌}
use native.Mathlib.Decide.{ℕ_discrete}
use native.Mathlib.Nat.{add-zero}
use native.Mathlib.Numerals.{add-one}
use native.Mathlib.Omega.{arith}
use lib.Dec.{eqb}
use lib.ListN.{length, take, drop, get_or, set, get_elem?, length-append, get_or-append}
use lib.Seq.{set_at, set-append_left, get_or-set_same, get_or-set_other, get_or-append-add, get_or-take, length-take-le}
use lib.Seq.{sets-eq, take-set-lt}
use Rattle.code.specs.Bytes.{word_bytes}
use Rattle.builder.specs.declared.marks.Mark.TheVariants.{Absent, Open, Patched, Target}
use Rattle.code.specs.Tables.{mark_cells, start_cells, put}
use Rattle.builder.specs.Marks.{open_kind, patched_kind, target_kind, mark_row, mark_of, mark_at}
use Rattle.base.proofs.Lists.{nth_left, nth_seam}
use Rattle.demand.proofs.View.{tab, start_at}

-- the first n values of a function

module _ {A : Type 0} where
  pub tab_length : (n : ℕ) (f : ℕ → A) → length (tab n f) ≡ n
  unfolding tab
  tab_length zero f = refl
  tab_length (suc n) f = length-append (tab n f) (f n ∷ []) ∙ (let h = tab_length n f in omega arith)

  pub tab_ext : (n : ℕ) (f g : ℕ → A) → ((k : ℕ) → k < n → g k ≡ f k) → tab n g ≡ tab n f
  unfolding tab
  tab_ext zero f g h = refl
  tab_ext (suc n) f g h = rw (tab_ext n f g (λ k l. h k (omega arith)), h n (omega arith))

  pub tab_nth : (n : ℕ) (f : ℕ → A) (k : ℕ) → k < n → get_elem? (tab n f) k ≡ found (f k)
  unfolding tab
  tab_nth (suc n) f k l = go (ℕ_discrete k n) (λ (h : k < n). tab_nth n f k h)
    where
      go : Dec (k ≡ n) → (k < n → get_elem? (tab n f) k ≡ found (f k)) → get_elem? (tab n f ++ (f n ∷ [])) k ≡ found (f k)
      go (yes e) ih = rw e (let h = nth_seam (tab n f) (f n) [] in rw (tab_length n f) at h)
      go (no e) ih = nth_left (tab n f) (f n ∷ []) k (ih (omega arith))
  tab_nth zero f k l = absurd (omega arith)

  pub tab_set : (n : ℕ) (f g : ℕ → A) (k : ℕ) (v : A) → k < n → g k ≡ v → ((i : ℕ) → i < n → i ≢ k → g i ≡ f i)
      → tab n g ≡ set (tab n f) k v
  unfolding tab
  tab_set zero f g k v l e h = absurd (omega arith)
  tab_set (suc n) f g k v l e h =
      go (ℕ_discrete k n) (λ (q : k < n). tab_set n f g k v q e (λ i a b. h i (omega arith) b))
    where
      go : Dec (k ≡ n) → (k < n → tab n g ≡ set (tab n f) k v) → tab n g ++ (g n ∷ []) ≡ set (tab n f ++ (f n ∷ [])) k v
      go (yes q) ih =
          let s = set_at (tab n f) (f n) [] v k (tab_length n f ∙ sym q) in
          let x : g n ≡ v = rw q at e in
          rw (s, tab_ext n f g (λ i a. h i (omega arith) (λ c. omega arith)), x)
      go (no q) ih =
          let y : k < n = omega arith in
          let s = set-append_left (tab n f) (f n ∷ []) k v (let z = tab_length n f in omega arith) in
          rw (s, ih y, h n (omega arith) (λ c. q (sym c)))

  -- a row more, the others as they were
  pub tab_push : (n : ℕ) (f g : ℕ → A) (v : A) → ((k : ℕ) → k < n → g k ≡ f k) → g n ≡ v → tab (n + 1) g ≡ tab n f ++ (v ∷ [])
  unfolding tab
  tab_push n f g v h e = rw (add-one, tab_ext n f g h, e)

-- cells of a table with something put into it

module _ (at : ℕ) (xs l : List ℕ) (room : at + length xs ≤ length l) where
  head : length (take at l) ≡ at
  head = length-take-le at l (omega arith)

  pub put_below : (i : ℕ) → i < at → get_or (put at xs l) i 0 ≡ get_or l i 0
  unfolding put
  put_below i h =
      get_or-append (take at l ++ xs) (drop (at + length xs) l) 0 i
      (omega (arith, length-append (take at l) xs, head))
      ∙ get_or-append (take at l) xs 0 i (omega (arith, head)) ∙ get_or-take at l i 0 h

  pub put_inside : (j : ℕ) → j < length xs → get_or (put at xs l) (at + j) 0 ≡ get_or xs j 0
  unfolding put
  put_inside j h =
      let rest : List ℕ = drop (at + length xs) l in
      ap (λ (m : List ℕ). get_or m (at + j) 0) (append_assoc (take at l) xs rest)
      ∙ ap (λ (n : ℕ). get_or (take at l ++ (xs ++ rest)) (n + j) 0) (sym head)
      ∙ get_or-append-add (take at l) (xs ++ rest) j 0 ∙ get_or-append xs rest 0 j h

  pub put_first : 0 < length xs → get_or (put at xs l) at 0 ≡ get_or xs 0 0
  put_first h = ap (λ (n : ℕ). get_or (put at xs l) n 0) (sym (add-zero at)) ∙ put_inside 0 h

-- marks

pub marks_push : (n kind o d : ℕ) (marks : List ℕ) → n * mark_cells + 4 ≤ length marks
    → tab (n + 1) (mark_at (put (n * mark_cells) (mark_row kind o d) marks)) ≡ tab n (mark_at marks) ++ (mark_of kind o d ∷ [])
marks_push n kind o d marks room =
    let row = mark_row kind o d in
    let m : List ℕ = put (n * mark_cells) row marks in
    let e0 = put_first (n * mark_cells) row marks room (omega arith) in
    let e1 = put_inside (n * mark_cells) row marks room 1 (omega arith) in
    let e2 = put_inside (n * mark_cells) row marks room 2 (omega arith) in
    tab_push n (mark_at marks) (mark_at m) (mark_of kind o d)
    (λ k l. rw (put_below (n * mark_cells) row marks room (k * mark_cells) (omega arith), put_below (n * mark_cells) row marks room (k * mark_cells + 1) (omega arith), put_below (n * mark_cells) row marks room (k * mark_cells + 2) (omega arith)))
    (rw (e0, e1, e2))

-- an open label's offset and depth
open_fields : (kind x y o d : ℕ) → mark_of kind x y ≡ Open o d → (x ≡ o) × (y ≡ d)
unfolding mark_of
open_fields kind x y o d e = go (eqb kind open_kind) (eqb kind patched_kind) (eqb kind target_kind) e
  where
    go : (p q r : Bool) → cond p (Open x y) (cond q (Patched x y) (cond r (Target x y) Absent)) ≡ Open o d
        → (x ≡ o) × (y ≡ d)
    go true q r e = (cc, cc)
    go false true r e = (cc, cc)
    go false false true e = (cc, cc)
    go false false false e = (cc, cc)

patched_of : (x y : ℕ) → mark_of patched_kind x y ≡ Patched x y
unfolding mark_of
patched_of x y = refl

-- an open label's row becomes a patched one, and no other changes
module _ (i o d : ℕ) (marks : List ℕ) (e : mark_at marks i ≡ Open o d) where
  patched_same : i * mark_cells < length marks → mark_at (set marks (i * mark_cells) patched_kind) i ≡ Patched o d
  patched_same room =
      let f = open_fields (get_or marks (i * mark_cells) 0) (get_or marks (i * mark_cells + 1) 0) (get_or marks (i * mark_cells + 2) 0) o d e in
      rw (
        get_or-set_same marks (i * mark_cells) patched_kind 0 room,
        get_or-set_other marks (i * mark_cells) (i * mark_cells + 1) patched_kind 0 (λ c. omega arith),
        get_or-set_other marks (i * mark_cells) (i * mark_cells + 2) patched_kind 0 (λ c. omega arith),
        f.0,
        f.1,
      ) (patched_of o d)

  patched_other : (k : ℕ) → k ≢ i → mark_at (set marks (i * mark_cells) patched_kind) k ≡ mark_at marks k
  patched_other k q =
      rw (
        get_or-set_other marks (i * mark_cells) (k * mark_cells) patched_kind 0 (λ c. q (omega arith)),
        get_or-set_other marks (i * mark_cells) (k * mark_cells + 1) patched_kind 0 (λ c. omega arith),
        get_or-set_other marks (i * mark_cells) (k * mark_cells + 2) patched_kind 0 (λ c. omega arith),
      )

  pub marks_patch : (n : ℕ) → i < n → n * mark_cells ≤ length marks
      → tab n (mark_at (set marks (i * mark_cells) patched_kind)) ≡ set (tab n (mark_at marks)) i (Patched o d)
  marks_patch n l room =
      tab_set n (mark_at marks) (mark_at (set marks (i * mark_cells) patched_kind)) i (Patched o d) l
      (patched_same (omega arith)) (λ k p q. patched_other k q)

-- starts

pub starts_push : (n o d : ℕ) (starts : List ℕ) → n * start_cells + 2 ≤ length starts
    → tab (n + 1) (start_at (put (n * start_cells) (o ∷ d ∷ []) starts)) ≡ tab n (start_at starts) ++ ((o, d) ∷ [])
starts_push n o d starts room =
    let row : List ℕ = o ∷ d ∷ [] in
    let m : List ℕ = put (n * start_cells) row starts in
    let e0 = put_first (n * start_cells) row starts room (omega arith) in
    let e1 = put_inside (n * start_cells) row starts room 1 (omega arith) in
    tab_push n (start_at starts) (start_at m) (o, d)
    (λ k l. rw (put_below (n * start_cells) row starts room (k * start_cells) (omega arith), put_below (n * start_cells) row starts room (k * start_cells + 1) (omega arith)))
    (rw (e0, e1))

-- two bytes of the used code

pub code_patch : (code : List ℕ) (n o w : ℕ) → o + 3 ≤ n → n ≤ length code
    → take n (put (o + 1) (word_bytes w) code) ≡ set (set (take n code) (o + 1) (w % 256)) (o + 2) (w / 256)
unfolding put
code_patch code n o w h k =
    let e : set (set code (o + 1) (w % 256)) (suc (o + 1)) (w / 256) ≡ take (o + 1) code ++ word_bytes w ++ drop (o + 1 + 2) code = sets-eq (word_bytes w) code (o + 1) (omega arith) in
    let s : suc (o + 1) ≡ o + 2 = omega arith in
    ap (take n) (sym e) ∙ ap (λ (p : ℕ). take n (set (set code (o + 1) (w % 256)) p (w / 256))) s
    ∙ take-set-lt n (set code (o + 1) (w % 256)) (o + 2) (w / 256) (omega arith)
    ∙ ap (λ (m : List ℕ). set m (o + 2) (w / 256)) (take-set-lt n code (o + 1) (w % 256) (omega arith))
