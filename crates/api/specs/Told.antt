-- Numbers told over lent cells: at their front, or 18 and no change. The header says the same in words.
-- Assumes nothing.
use Rattle.std.specs.Prelude.{◌≡◌, cond, List, ℕ, leb, length}
use Rattle.op.specs.declared.Refusal.{Refusal}
use Rattle.op.specs.declared.Refusal.TheVariants.{Full}
use Rattle.op.specs.declared.Table.TheVariants.{Text}
use Rattle.code.specs.Bytes.{front}
use Rattle.api.specs.Answers.{refused}

-- what there is to tell: numbers, that there is nothing, or why not
pub data Told : Type 0 where
  numbers : List ℕ → Told
  nothing : Told
  refusal : Refusal → Told

-- the answer, with so many cells of room: 1, 18 where they are too few; 0; the refusal
unfoldable pub told_answer : Told → ℕ → ℕ
told_answer (numbers xs) room = cond (leb (length xs) room) 1 (refused (Full Text))
told_answer nothing room = 0
told_answer (refusal r) room = refused r

-- the lent cells: the numbers at their front, or no change
unfoldable pub told_cells : Told → List ℕ → List ℕ
told_cells (numbers xs) out = cond (leb (length xs) (length out)) (front xs out) out
told_cells nothing out = out
told_cells (refusal r) out = out

-- the answer, and every cell that was lent
pub record Tells (t : Told) (out : List ℕ) (answer : ℕ) (out' : List ℕ) : Type 0 where
  pub answers : answer ≡ told_answer t (length out)
  pub cells : out' ≡ told_cells t out
