-- Laws of the loops over names: cells that are written one after another from the front on.
-- Assumes nothing.
use mathlib.Core.Path.{◌≡◌, refl, sym, ap, ◌∙◌}
use mathlib.Core.Bool.{Bool, ◌||◌}
use mathlib.Core.List.{List, [], ◌∷◌, ◌++◌, map, map-append, append-nil}
use Prim.Native.Nat.{ℕ, ◌+◌, ◌-◌, ◌*◌, ◌≤◌, ◌<◌}
use native.Mathlib.Numerals.{add-one}
use native.Mathlib.Nat.{add-zero}
use native.Mathlib.Omega.{arith}
use lib.Dec.{eqb}
use lib.ListN.{length, take, drop, get_or, set, replicate, length-map, length-append, length-replicate}
use lib.ListN.{replicate-append-replicate, drop_of_length-le}
use lib.Seq.{take-suc, take_all, length-take-le, get_or-append-add, get_or-drop}
use Rattle.code.specs.Bytes.{front}
use Rattle.code.proofs.Stores.{front_more}
use Rattle.code.specs.Tables.{mark_cells}
use Rattle.builder.specs.Marks.{open_kind}
use Rattle.builder.specs.Marks.{any_open}
use Rattle.builder.specs.Names.{extension, name_cell}

-- one cell more behind p
pub front_one : (p l : List ℕ) (i v : ℕ) → length p ≡ i → i < length l → set (front p l) i v ≡ front (p ++ v ∷ []) l
front_one p l i v e h = rw (← e) (front_more p (v ∷ []) l (omega arith))

-- a cell behind p is as it was
pub front_rest : (p l : List ℕ) (i : ℕ) → length p ≡ i → get_or (front p l) i 0 ≡ get_or l i 0
front_rest p l i e =
    rw (← e) (ap (λ (n : ℕ). get_or (front p l) n 0) (sym (add-zero (length p)))
    ∙ get_or-append-add p (drop (length p) l) 0 0
    ∙ get_or-drop (length p) l 0 0 ∙ ap (λ (n : ℕ). get_or l n 0) (add-zero (length p)))

module _ (f : ℕ → ℕ) (ns out : List ℕ) (i : ℕ) where
  pub passed : i ≤ length ns → length (map f (take i ns)) ≡ i
  passed h = length-map (take i ns) f ∙ length-take-le i ns h

  -- one cell more of a list that is mapped
  pub map_more : i < length ns → length ns ≤ length out
      → set (front (map f (take i ns)) out) i (f (get_or ns i 0)) ≡ front (map f (take (i + 1) ns)) out
  map_more h room =
      front_one (map f (take i ns)) out i (f (get_or ns i 0)) (passed (omega arith)) (omega arith)
      ∙ ap (λ (p : List ℕ). front p out)
      (sym (ap (map f) (ap (λ (n : ℕ). take n ns) (add-one i) ∙ take-suc ns i 0 h)
      ∙ map-append f (take i ns) (get_or ns i 0 ∷ [])))

-- all of it
pub map_all : (f : ℕ → ℕ) (ns out : List ℕ) (i : ℕ) → length ns ≤ i
    → front (map f (take i ns)) out ≡ front (map f ns) out
map_all f ns out i h = ap (λ (l : List ℕ). front (map f l) out) (take_all i ns h)

-- in its own place
pub map_own : (f : ℕ → ℕ) (ns : List ℕ) → front (map f ns) ns ≡ map f ns
map_own f ns =
    ap (λ (l : List ℕ). map f ns ++ l) (drop_of_length-le ns {i = length (map f ns)} (omega (arith, length-map ns f)))
    ∙ append-nil (map f ns)

-- one absent slot more
pub absent_more : (l : List ℕ) (i : ℕ) → i < length l → set (front (replicate i 0) l) i 0 ≡ front (replicate (i + 1) 0) l
absent_more l i h =
    front_one (replicate i 0) l i 0 (length-replicate i 0) h ∙ ap (λ (p : List ℕ). front p l) (replicate-append-replicate i 1 0)

-- the name behind them
pub absent_name : (l : List ℕ) (n i name : ℕ) → i ≡ n → i < length l
    → set (front (replicate i 0) l) n (name_cell name) ≡ front (extension n name) l
absent_name l n i name e h = rw (← e) (front_one (replicate i 0) l i (name_cell name) (length-replicate i 0) h)

-- one mark more
pub open_more : (marks : List ℕ) (i : ℕ) (found : Bool) → found ≡ any_open i marks
    → (found || eqb (get_or marks (i * mark_cells) 0) open_kind) ≡ any_open (i + 1) marks
unfolding any_open
open_more marks i found e = rw (add-one, e) refl

-- what is wanted is there
pub extension_fits : (slot held name room : ℕ) → held ≤ slot → slot < room
    → held + length (extension (slot - held) name) ≤ room
extension_fits slot held name room h l =
    let zeros : List ℕ = replicate (slot - held) 0 in
    let e = length-append zeros (name_cell name ∷ []) in
    let r : length zeros ≡ slot - held = length-replicate (slot - held) 0 in
    omega arith
