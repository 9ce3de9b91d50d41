-- A text in lines that is made part by part, in lent cells: each part has as many whole lines as there is room for. Refusal 18.
-- Assumes nothing.
use Rattle.std.specs.Prelude.{◌≡◌, Bool, true, false, cond, List, [], ◌∷◌, ◌++◌, ℕ, ◌-◌, leb, length, Ok, Err, Result}
use Rattle.std.proofs.lemmas.List.Edits.{sets}
use Rattle.op.specs.declared.Refusal.{Refusal}
use Rattle.op.specs.declared.Refusal.TheVariants.{Full}
use Rattle.op.specs.declared.Table.TheVariants.{Text}
use Rattle.text.specs.declared.Part.{Part as Answer}

-- the answer of a call that makes a part: how many cells it has and the cursor behind it, or why there is none
abbrev pub Listed : Type 0
Listed = Result Answer Refusal

abbrev pub made : ℕ → ℕ → Listed
made length next = Ok (record { length = length; next = next })

-- a line's text, and the cursor behind it, from which the lines behind it are asked for
pub record Line : Type 0 where
  pub text : List ℕ
  pub next : ℕ

abbrev pub line_to : List ℕ → ℕ → Line
line_to text next = record { text = text; next = next }

-- all of the lines
abbrev pub text_of : List Line → List ℕ
text_of [] = []
text_of (l ∷ ls) = l.text ++ text_of ls

-- a part: its text, the cursor behind it, and whether a line was left for want of room
pub record Part : Type 0 where
  pub text : List ℕ
  pub next : ℕ
  pub full : Bool

-- no line
abbrev pub no_line : ℕ → Bool → Part
no_line cursor full = record { text = []; next = cursor; full = full }

-- a text in front of a part
abbrev pub onto : List ℕ → Part → Part
onto text p = record { text = text ++ p.text; next = p.next; full = p.full }

-- as many of the lines, which begin at a cursor, as so many cells have room for (R67)
unfoldable pub fit : ℕ → ℕ → List Line → Part
fit room cursor [] = no_line cursor false
fit room cursor (l ∷ ls) =
    let more = fit (room - length l.text) l.next ls in
    cond (leb (length l.text) room) (onto l.text more) (no_line cursor true)

-- what is answered of a part that ends behind so many cells: 18 where there is a line and no room for one
abbrev pub said_of : ℕ → Part → Listed
said_of length p = cond (leb 1 length) (made length p.next) (cond p.full (Err (Full Text)) (made length p.next))

-- the answer for lines, which begin at a cursor, and every lent cell
unfoldable pub listed_of : List Line → ℕ → List ℕ → Listed
listed_of lines cursor old = said_of (length (fit (length old) cursor lines).text) (fit (length old) cursor lines)

unfoldable pub listed_in : List Line → ℕ → List ℕ → List ℕ
listed_in lines cursor old = sets old 0 (fit (length old) cursor lines).text

pub record Lists (lines : List Line) (cursor : ℕ) (old : List ℕ) (answer : Listed) (out : List ℕ) : Type 0 where
  pub answers : answer ≡ listed_of lines cursor old
  pub cells : out ≡ listed_in lines cursor old
