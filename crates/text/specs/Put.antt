-- A text written into a lent slice: refusal 18 (R27), and what stands elsewhere never changes (R26).
-- Assumes nothing.
use Rattle.op.specs.declared.Refusal.{Refusal}
use Rattle.std.specs.Prelude.{◌≡◌, Bool, cond, List, ℕ, ◌+◌, ◌-◌, leb, length, Ok, Err, Result}
use Rattle.std.proofs.lemmas.List.Edits.{sets}
use Rattle.op.specs.declared.Refusal.TheVariants.{Full}
use Rattle.op.specs.declared.Table.TheVariants.{Text}

-- `text` stands in `out` from `at` on, `next` is the place behind it, and all else is as it was in `old`
pub record Put (old : List ℕ) (at : ℕ) (text : List ℕ) (next : ℕ) (out : List ℕ) : Type 0 where
  pub next_is : next ≡ at + length text
  pub out_is : out ≡ sets old at text

-- 18, "no room": whether no more are wanted
abbrev pub fits : List ℕ → ℕ → List ℕ → Bool
fits old at text = leb (length text) (length old - at)

-- the place behind a text, or 18
unfoldable pub placed_of : List ℕ → ℕ → List ℕ → Result ℕ Refusal
placed_of old at text = cond (fits old at text) (Ok (at + length text)) (Err (Full Text))

-- every cell: the text in its place, or no change
unfoldable pub written : List ℕ → ℕ → List ℕ → List ℕ
written old at text = cond (fits old at text) (sets old at text) old

-- the answer of a public writer, and every cell that it was lent
pub record Places (old : List ℕ) (at : ℕ) (text : List ℕ) (answer : Result ℕ Refusal) (out : List ℕ) : Type 0 where
  pub answers : answer ≡ placed_of old at text
  pub cells : out ≡ written old at text
