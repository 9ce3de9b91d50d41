-- What a part of a listing tells: its length and the cursor of the next, over two cells.
-- Assumes nothing.
use Rattle.std.specs.Prelude.{◌≡◌, cond, List, [], ◌∷◌, ℕ, ◌≤◌, ◌<◌, leb, length, Ok, Err}
use Rattle.op.specs.declared.Refusal.TheVariants.{Full}
use Rattle.op.specs.declared.Table.TheVariants.{Text}
use Rattle.text.specs.Fitting.{Listed}
use Rattle.api.specs.Answers.{refused}
use Rattle.api.specs.Told.{Told, numbers, nothing, refusal, Tells}

-- a part: nothing where no line is left
abbrev pub part_told : Listed → Told
part_told (Ok part) = cond (leb 1 part.length) (numbers (part.length ∷ part.next ∷ [])) nothing
part_told (Err r) = refusal r

-- a listing's own answer, of which its promise speaks, told over the lent cells
pub record PartTold (Promise : Listed → List ℕ → Type 0) (text' told : List ℕ) (w : ℕ) (told' : List ℕ) : Type 0 where
  pub answer : Listed
  pub promise : Promise answer text'
  pub tells : Tells (part_told answer) told w told'

-- where there are too few cells to tell it, 18 first, and no part is made
pub record ListingTold (Promise : Listed → List ℕ → Type 0) (text told : List ℕ) (w : ℕ) (text' told' : List ℕ)
    : Type 0 where
  pub few : length told < 2 → (w ≡ refused (Full Text)) × (text' ≡ text) × (told' ≡ told)
  pub enough : 2 ≤ length told → PartTold Promise text' told w told'
