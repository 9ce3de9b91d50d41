-- What a check tells: the count of instructions that have a depth, or the refusal, and on 23 and 26 the reason. Beside it
-- one lent number, g before and g' after, is told the greatest depth.
-- Assumes nothing.
use Rattle.std.specs.Prelude.{◌≡◌, List, [], ◌∷◌, ℕ, zero, suc, ◌≤◌, ◌<◌, length, Result, Ok, Err}
use Rattle.op.specs.Opcodes.{last_opcode}
use Rattle.op.specs.declared.Refusal.{Refusal}
use Rattle.op.specs.declared.Refusal.TheVariants.{WrongShape, Full}
use Rattle.op.specs.declared.Table.TheVariants.{Text}
use Rattle.code.specs.Bytes.{front}
use Rattle.checker.specs.declared.Assignment.{Assignment}
use Rattle.checker.specs.declared.Reason.{Reason}
use Rattle.checker.specs.declared.Reason.TheVariants.{TwoDepths, NetOutOfRange, TakenOutOfRange, NoPlace}
use Rattle.strict.specs.declared.Mode.{Mode}
use Rattle.strict.specs.declared.Mode.TheVariants.{Net, Strict}
use Rattle.strict.specs.declared.Unfit.{Unfit}
use Rattle.strict.specs.declared.Unfit.TheVariants as J
use Rattle.strict.specs.Promise.{Promise, Explains, answer_of}
use Rattle.api.specs.Answers.{refused}

-- an answer's number
abbrev pub check_answer : Result Assignment Refusal → ℕ
check_answer (Ok a) = a.count
check_answer (Err r) = refused r

-- the lent number: the greatest depth of what is accepted, or no change
abbrev pub greatest_told : Result Assignment Refusal → ℕ → ℕ
greatest_told (Ok a) g = a.greatest
greatest_told (Err r) g = g

-- a mode by its number: 0 the old one, 1 the strict one, and no other
abbrev pub last_mode : ℕ
last_mode = 1

abbrev pub mode_of : ℕ → Mode
mode_of zero = Net
mode_of (suc n) = Strict

-- n is the number of an answer that a check in the mode promises, d' the depths that it leaves in d and w' what it leaves
-- in the work slice w
pub record CheckTold (mode : Mode) (s st d d' w w' : List ℕ) (g g' n : ℕ) : Type 0 where
  pub answer : Result Assignment Refusal
  pub promise : Promise mode last_opcode s st d d' w w' answer
  pub number : n ≡ check_answer answer
  pub greatest : g' ≡ greatest_told answer g

-- for a mode that is none 2, and nothing is checked
pub record ChecksTold (mode : ℕ) (s st d d' w w' : List ℕ) (g g' n : ℕ) : Type 0 where
  pub unknown : last_mode < mode → (n ≡ refused WrongShape) × (d' ≡ d) × (w' ≡ w) × (g' ≡ g)
  pub known : mode ≤ last_mode → CheckTold (mode_of mode) s st d d' w w' g g' n

-- a reason's numbers: its kind, the offset, the depth there, and the other depth, 0 where there is none
abbrev pub reason_numbers : Reason → List ℕ
reason_numbers (TwoDepths place one other) = 1 ∷ place ∷ one ∷ other ∷ []
reason_numbers (NetOutOfRange at depth) = 2 ∷ at ∷ depth ∷ 0 ∷ []
reason_numbers (TakenOutOfRange at depth) = 3 ∷ at ∷ depth ∷ 0 ∷ []
reason_numbers (NoPlace at depth) = 4 ∷ at ∷ depth ∷ 0 ∷ []

-- of too few values: the kind, the offset, the depth there, and the need
abbrev pub few_numbers : ℕ → ℕ → ℕ → List ℕ
few_numbers at depth need = 5 ∷ at ∷ depth ∷ need ∷ []

-- the cells that a reason is told in: its numbers at their front
abbrev pub reason_cells : Result Assignment Unfit → List ℕ → List ℕ
reason_cells (Ok a) told = told
reason_cells (Err (J.Refused q)) told = told
reason_cells (Err (J.Unsolved why)) told = front (reason_numbers why) told
reason_cells (Err (J.TooFew at depth need)) told = front (few_numbers at depth need) told

-- a check's answer with its reason, of which `Explains` speaks, told over the lent cells: the number and the greatest
-- depth are the check's
pub record ReasonTold (mode : Mode) (s st d d' w w' told told' : List ℕ) (g g' n : ℕ) : Type 0 where
  pub answer : Result Assignment Unfit
  pub explains : Explains mode last_opcode s st d d' w w' answer
  pub number : n ≡ check_answer (answer_of answer)
  pub greatest : g' ≡ greatest_told (answer_of answer) g
  pub cells : told' ≡ reason_cells answer told

-- where there are too few cells to tell a reason, 18 first, and for a mode that is none 2; nothing is checked then
pub record ExplainsTold (mode : ℕ) (s st d d' w w' told told' : List ℕ) (g g' n : ℕ) : Type 0 where
  pub few : length told < 4 → (n ≡ refused (Full Text)) × (d' ≡ d) × (w' ≡ w) × (g' ≡ g) × (told' ≡ told)
  pub unknown : 4 ≤ length told → last_mode < mode
      → (n ≡ refused WrongShape) × (d' ≡ d) × (w' ≡ w) × (g' ≡ g) × (told' ≡ told)
  pub known : 4 ≤ length told → mode ≤ last_mode → ReasonTold (mode_of mode) s st d d' w w' told told' g g' n
