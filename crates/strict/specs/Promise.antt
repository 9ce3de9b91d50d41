-- What a check in a mode promises: R77 to R79. Strict mode promises what the old mode does, and one refusal more. `last` is
-- the last opcode of the table, s the code, st the starts, d the depth slice before and d' after, w the work slice before
-- and w' after, r the answer.
-- Assumes nothing.
use Rattle.std.specs.Prelude.{◌≡◌, List, ◌⊎◌, ℕ, suc, ◌≤◌, ◌<◌, length, get_or, replicate, Ok, Err, Result, Option, Some}
use Rattle.op.specs.Needs.{need_of}
use Rattle.op.specs.declared.Refusal.{Refusal}
use Rattle.op.specs.declared.Refusal.TheVariants.{NoDepths, TooFewValues}
use Rattle.code.specs.Depths.{Stands, Place, Smallest}
use Rattle.code.specs.Tables.{no_depth}
use Rattle.code.specs.declared.Flow.{Flow}
use Rattle.checker.specs.declared.Assignment.{Assignment}
use Rattle.checker.specs.Cells.{depth_in}
use Rattle.checker.specs.Promise.{Became, Promise as OldPromise}
use Rattle.checker.specs.Reasons.{Because}
use Rattle.strict.specs.declared.Mode.{Mode}
use Rattle.strict.specs.declared.Mode.TheVariants.{Net, Strict}
use Rattle.strict.specs.declared.Unfit.{Unfit}
use Rattle.strict.specs.declared.Unfit.TheVariants as J

-- an instruction whose depth is less than it needs; a gives the depths
pub record Short (last : ℕ) (s : List ℕ) (a : ℕ → Option ℕ) (o : ℕ) : Type 0 where
  pub place : Place last s o
  pub flow : Flow
  pub stands : Stands last s o flow
  pub depth : ℕ
  pub has : a o ≡ Some depth
  pub less : depth < need_of (get_or s o 0)

-- "the lowest offset" of those with P
pub record Lowest (P : ℕ → Type 0) (o : ℕ) : Type 0 where
  pub holds : P o
  pub least : (q : ℕ) → P q → o ≤ q

-- what becomes of the old mode's answer, which left the depths e: "every instruction with a depth has at least what it
-- needs"; or 26, and the "depth cells read as after 23" (R78)
abbrev pub Stricter : (last : ℕ) (s d e d' : List ℕ) → Result Assignment Refusal → Result Assignment Refusal → Type 0
Stricter last s d e d' (Err q) r = (r ≡ Err q) × (d' ≡ e)
Stricter last s d e d' (Ok a) r =
    (((o : ℕ) → Short last s (depth_in e) o → ⊥) × (r ≡ Ok a) × (d' ≡ e))
    ⊎ ((o : ℕ) × Lowest (Short last s (depth_in e)) o × (r ≡ Err (TooFewValues o))
    × Became s d d' (replicate (suc (length s)) no_depth))

-- "all refusals of the old mode, then 26" (R78)
pub record StrictPromise (last : ℕ) (s st d d' w w' : List ℕ) (r : Result Assignment Refusal) : Type 0 where
  pub old : Result Assignment Refusal
  pub left : List ℕ
  pub promise : OldPromise last s st d left w w' old
  pub stricter : Stricter last s d left d' old r

-- a check in either mode
abbrev pub Promise : Mode → ℕ → List ℕ → List ℕ → List ℕ → List ℕ → List ℕ → List ℕ → Result Assignment Refusal → Type 0
Promise Net last s st d d' w w' r = OldPromise last s st d d' w w' r
Promise Strict last s st d d' w w' r = StrictPromise last s st d d' w w' r

-- the answer without the reason
abbrev pub answer_of : Result Assignment Unfit → Result Assignment Refusal
answer_of (Ok a) = Ok a
answer_of (Err (J.Refused q)) = Err q
answer_of (Err (J.Unsolved why)) = Err NoDepths
answer_of (Err (J.TooFew at depth need)) = Err (TooFewValues at)

-- the instruction at o needs more values than its depth in the smallest assignment
pub record TooFew (last : ℕ) (s st : List ℕ) (o depth need : ℕ) : Type 0 where
  pub assignment : ℕ → Option ℕ
  pub smallest : Smallest last s st assignment
  pub has : assignment o ≡ Some depth
  pub needs : need ≡ need_of (get_or s o 0)
  pub less : depth < need

-- 23 and 26 come with a reason that holds
abbrev pub Reasoned : ℕ → List ℕ → List ℕ → Result Assignment Unfit → Type 0
Reasoned last s st (Ok a) = Unit {0}
Reasoned last s st (Err (J.Refused q)) = (q ≡ NoDepths → ⊥) × ((o : ℕ) → q ≡ TooFewValues o → ⊥)
Reasoned last s st (Err (J.Unsolved why)) = Because last s st why
Reasoned last s st (Err (J.TooFew at depth need)) = TooFew last s st at depth need

-- the same answer, with the reason: "`explain` tells with 26 the depth there and the need" (R78)
pub record Explains (mode : Mode) (last : ℕ) (s st d d' w w' : List ℕ) (r : Result Assignment Unfit) : Type 0 where
  pub promise : Promise mode last s st d d' w w' (answer_of r)
  pub reasoned : Reasoned last s st r
