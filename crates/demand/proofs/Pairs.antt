-- Starts as cells and as pairs.
-- Assumes nothing.
use mathlib.Core.Path.{◌≡◌, refl, sym, ap, ◌∙◌}
use mathlib.Core.List.Memᴰ.{head as mhead}
use mathlib.Core.List.Memᴰ.{tail as mtail}
use mathlib.Core.List.{List, [], ◌∷◌, ◌++◌, Memᴰ as Mem}
use Prim.Native.Nat.{ℕ, zero, suc, ◌+◌, ◌*◌, ◌≤◌, ◌<◌}
use native.Mathlib.Omega.{arith}
use lib.ListN.{length, take, drop, get_or, length-drop}
use lib.Seq.{take-add, get_or-drop}
use Rattle.code.specs.Depths.{Begins}
use Rattle.code.specs.Tables.{start_cells}
use Rattle.demand.specs.Demand.{cells}
use Rattle.demand.proofs.View.{tab, start_at}

pub cells_append : (xs ys : List (ℕ × ℕ)) → cells (xs ++ ys) ≡ cells xs ++ cells ys
cells_append [] ys = refl
cells_append (x ∷ xs) ys = rw (cells_append xs ys)

pub cells_length : (xs : List (ℕ × ℕ)) → length (cells xs) ≡ 2 * length xs
cells_length [] = refl
cells_length (x ∷ xs) = omega (arith, cells_length xs)

two : (l : List ℕ) → 2 ≤ length l → take 2 l ≡ get_or l 0 0 ∷ get_or l 1 0 ∷ []
two [] h = absurd (omega arith)
two (a ∷ []) h = absurd (omega arith)
two (a ∷ (b ∷ l)) h = refl

two_at : (m : ℕ) (l : List ℕ) → m + 2 ≤ length l → take 2 (drop m l) ≡ get_or l m 0 ∷ get_or l (m + 1) 0 ∷ []
two_at m l h =
    let e : m + 0 ≡ m = omega arith in
    let q : get_or (drop m l) 0 0 ≡ get_or l m 0 = get_or-drop m l 0 0 ∙ ap (λ (i : ℕ). get_or l i 0) e in
    two (drop m l) (omega (arith, length-drop m l)) ∙ rw (q, get_or-drop m l 1 0) refl

-- the used cells are those of the rows
pub cells_tab : (n : ℕ) (l : List ℕ) → n * start_cells ≤ length l → take (n * start_cells) l ≡ cells (tab n (start_at l))
unfolding tab
cells_tab zero l h = refl
cells_tab (suc n) l h =
    let e : suc n * start_cells ≡ n * start_cells + 2 = omega arith in
    ap (λ (m : ℕ). take m l) e ∙ take-add (n * start_cells) 2 l
    ∙ rw (
      two_at (n * start_cells) l (omega arith),
      cells_tab n l (omega arith),
      cells_append (tab n (start_at l)) (start_at l n ∷ []),
    ) refl

-- a start is a pair

row_mem : (ps : List (ℕ × ℕ)) (k o d : ℕ) → 2 * k + 1 < length (cells ps) → get_or (cells ps) (2 * k) 0 ≡ o → get_or (cells ps) (2 * k + 1) 0 ≡ d → Mem (o, d) ps
row_mem [] k o d h e f = absurd (omega arith)
row_mem (p ∷ ps) zero o d h e f =
    let x : p.0 ≡ o = e in
    let y : p.1 ≡ d = f in
    let q : ◌≡◌ {A = ℕ × ℕ} (o, d) p = rw (← x, ← y) refl in
    mhead q
row_mem (p ∷ ps) (suc k) o d h e f =
    let z : 2 * suc k ≡ suc (suc (2 * k)) = omega arith in
    let y : 2 * suc k + 1 ≡ suc (suc (2 * k + 1)) = omega arith in
    mtail (row_mem ps k o d (omega arith) (rw z at e) (rw y at f))

pub begins_mem : (ps : List (ℕ × ℕ)) (o d : ℕ) → Begins (cells ps) o d → Mem (o, d) ps
begins_mem ps o d b = row_mem ps b.row o d b.inside b.offset b.depth

pub mem_begins : (ps : List (ℕ × ℕ)) (o d : ℕ) → Mem (o, d) ps → Begins (cells ps) o d
mem_begins [] o d m = elim m [ ]
mem_begins (p ∷ ps) o d (mhead e) = record { row = 0; inside = omega arith; offset = sym (ap (λ (x : ℕ × ℕ). x.0) e); depth = sym (ap (λ (x : ℕ × ℕ). x.1) e) }
mem_begins (p ∷ ps) o d (mtail m) =
    let b = mem_begins ps o d m in
    let z : 2 * suc b.row ≡ suc (suc (2 * b.row)) = omega arith in
    let y : 2 * suc b.row + 1 ≡ suc (suc (2 * b.row + 1)) = omega arith in
    record { row = suc b.row; inside = omega (arith, b.inside); offset = rw z b.offset; depth = rw y b.depth }
