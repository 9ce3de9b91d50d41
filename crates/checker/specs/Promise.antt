-- What a check promises: R47 to R53, and R73 of the work slice. `last` is the last opcode of the table, s the code,
-- st the starts, d the depth slice before and d' after, w the work slice before and w' after, r the answer.
-- Assumes nothing.
use Rattle.std.specs.Prelude.{◌≡◌, Bool, false, ◌&&◌, List, ◌++◌, ◌⊎◌, ℕ, suc, ◌+◌, ◌*◌, ◌%◌, ◌≤◌, ◌<◌, length, get_or, take, drop, replicate, Ok, Err, Result, None, Option, Some}
use Rattle.op.specs.Depths.{deepest}
use Rattle.op.specs.Opcodes.{last_opcode}
use Rattle.op.specs.declared.Refusal.{Refusal}
use Rattle.op.specs.declared.Refusal.TheVariants.{TooLarge, Unsound, ShortDepths, BadStarts, NoDepths}
use Rattle.code.specs.Depths.{Place, Faulty, Smallest, Impossible, Derived, Counts}
use Rattle.builder.specs.declared.Builder.{Builder}
use Rattle.code.specs.Tables.{code_limit, code_within, no_depth, start_cells, used, within}
use Rattle.checker.specs.declared.Assignment.{Assignment}
use Rattle.checker.specs.Cells.{cell, depth_in}

-- 10, checked code too large
abbrev pub TooLong : List ℕ → Refusal → Type 0
TooLong s q = (q ≡ TooLarge) × (code_limit < length s)

-- 21, "a slice for depths or to work in that has under code+1 cells" (R73)
abbrev pub NoRoom : List ℕ → List ℕ → List ℕ → Refusal → Type 0
NoRoom s d w q = (q ≡ ShortDepths) × ((length d ≤ length s) ⊎ (length w ≤ length s))

-- a start list that can be: pairs of an instruction's start or the end and a depth
pub record Listed (last : ℕ) (s st : List ℕ) : Type 0 where
  pub even : length st % 2 ≡ 0
  pub good : (k : ℕ) → 2 * k + 1 < length st → (get_or st (2 * k + 1) 0 ≤ deepest) × Place last s (get_or st (2 * k) 0)

-- 20, any other
abbrev pub Astray : ℕ → List ℕ → List ℕ → Refusal → Type 0
Astray last s st q = (q ≡ BadStarts) × (Listed last s st → ⊥)

-- 23, no assignment of depths exists
abbrev pub Unsolved : ℕ → List ℕ → List ℕ → Refusal → Type 0
Unsolved last s st q = (q ≡ NoDepths) × Impossible last s st

-- "the greatest depth that it assigned, 0 where it assigned none" (R75)
pub record Greatest (a : ℕ → Option ℕ) (g : ℕ) : Type 0 where
  pub most : (o d : ℕ) → a o ≡ Some d → d ≤ g
  pub assigned : ((o : ℕ) × (a o ≡ Some g)) ⊎ ((g ≡ 0) × ((o : ℕ) → a o ≡ None))

-- "The first code+1 cells then hold the smallest one, .. and 65,536 where there is no depth" (R50); each depth is
-- derived, the answer counts the instructions that have one and says the greatest
pub record Solution (last : ℕ) (s st c : List ℕ) (a : Assignment) : Type 0 where
  pub size : length c ≡ suc (length s)
  pub smallest : Smallest last s st (depth_in c)
  pub others : (o : ℕ) → cell c o ≤ no_depth
  pub derived : (o d : ℕ) → depth_in c o ≡ Some d → Derived last s st o d
  pub count : Counts last s (depth_in c) a.count
  pub greatest : Greatest (depth_in c) a.greatest

-- the first code+1 cells of a slice became c: "later cells never change" (R52)
abbrev pub Became : List ℕ → List ℕ → List ℕ → List ℕ → Type 0
Became s d d' c = d' ≡ c ++ drop (suc (length s)) d

-- the work slice's first code+1 cells "hold 0", and "its later cells never change" (R73)
abbrev pub Zeroed : List ℕ → List ℕ → List ℕ → Type 0
Zeroed s w w' = Became s w w' (replicate (suc (length s)) 0)

-- refused with q before any work: "10, 21 and 19, which leave it as it was" (R73)
abbrev pub Untouched : List ℕ → List ℕ → List ℕ → List ℕ → Result Assignment Refusal → Refusal → Type 0
Untouched d d' w w' r q = (r ≡ Err q) × (d' ≡ d) × (w' ≡ w)

-- refused with q, and "leave the slice as it was" (R52)
abbrev pub Refuses : List ℕ → List ℕ → List ℕ → List ℕ → List ℕ → Result Assignment Refusal → Refusal → Type 0
Refuses s d d' w w' r q = (r ≡ Err q) × (d' ≡ d) × Zeroed s w w'

-- "On 23 those cells all hold 65,536" (R52)
abbrev pub Blanks : List ℕ → List ℕ → List ℕ → List ℕ → List ℕ → Result Assignment Refusal → Refusal → Type 0
Blanks s d d' w w' r q = (r ≡ Err q) × Became s d d' (replicate (suc (length s)) no_depth) × Zeroed s w w'

-- accepted, with a solution
pub record Accepts (last : ℕ) (s st d d' w w' : List ℕ) (r : Result Assignment Refusal) : Type 0 where
  pub assignment : Assignment
  pub cells : List ℕ
  pub answer : r ≡ Ok assignment
  pub solution : Solution last s st cells assignment
  pub became : Became s d d' cells
  pub zeroed : Zeroed s w w'

-- P holds of a refusal, and A of the same; or P holds of none, and B
pub data Unless (P A : Refusal → Type 0) (B : Type 0) : Type 0 where
  stops : (q : Refusal) → P q → A q → Unless P A B
  passes : ((q : Refusal) → P q → ⊥) → B → Unless P A B

-- "10, 21, 1 or 22 at the lowest offset, 20, 23", else accepted (R47)
unfoldable pub Promise : ℕ → List ℕ → List ℕ → List ℕ → List ℕ → List ℕ → List ℕ → Result Assignment Refusal → Type 0
Promise last s st d d' w w' r =
    Unless (TooLong s) (Untouched d d' w w' r)
    (Unless (NoRoom s d w) (Untouched d d' w w' r)
    (Unless (Faulty last s) (Refuses s d d' w w' r)
    (Unless (Astray last s st) (Refuses s d d' w w' r)
    (Unless (Unsolved last s st) (Blanks s d d' w w' r)
    (Accepts last s st d d' w w' r)))))

-- 19 of a builder whose code and starts are lent, so many cells each
unfoldable pub built_sound : Builder → ℕ → ℕ → Bool
built_sound b cl sl = code_within b.core.code cl && within start_cells b.starts sl

-- 19, "a count exceeds its lent table, the code's count 1,048,576"
abbrev pub Miscounted : Builder → List ℕ → List ℕ → Refusal → Type 0
Miscounted b s st q = (q ≡ Unsound) × (built_sound b (length s) (length st) ≡ false)

-- the check of a builder's code and starts: 19, then the promise above of the used parts (R53)
unfoldable pub BuiltPromise : Builder → List ℕ → List ℕ → List ℕ → List ℕ → List ℕ → List ℕ → Result Assignment Refusal → Type 0
BuiltPromise b s st d d' w w' r =
    Unless (Miscounted b s st) (Untouched d d' w w' r)
    (Promise last_opcode (take b.core.code s) (used start_cells b.starts st) d d' w w' r)
