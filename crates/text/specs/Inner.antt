-- What the functions that make a part of a listing promise each other.
-- Assumes nothing.
use Rattle.code.specs.Decode.{Step}
use Rattle.text.specs.Fitting.{Listed}
use Rattle.op.specs.declared.Refusal.{Refusal}
use Rattle.std.specs.Prelude.{◌≡◌, Bool, true, false, cond, List, [], ◌++◌, ℕ, suc, ◌+◌, ◌-◌, ◌≤◌, ◌<◌, ltb, length, drop, Ok, Err, Result, Some, None}
use Rattle.std.proofs.lemmas.List.Edits.{sets}
use Rattle.op.specs.Names.{name_of}
use Rattle.op.specs.Opcodes.{last_opcode}
use Rattle.code.specs.Decode.{decode}
use Rattle.code.specs.Tables.{code_limit}
use Rattle.reader.specs.Reader.{after_step}
use Rattle.text.specs.Fitting.{Part, no_line, onto, fit, said_of}
use Rattle.text.specs.Lines.{end_line, lines_from}
use Rattle.text.specs.Listing.{line_of}
use Rattle.text.specs.Put.{Put, placed_of, written}
use Rattle.text.specs.declared.lister.Progress.{Progress}
use Rattle.text.specs.declared.lister.Going.{Going}
use Rattle.text.specs.declared.lister.Going.TheVariants.{On, Ended, Cut}

-- behind what became of a line at an offset, which was to stand from a place on
abbrev pub went_by : Result ℕ Refusal → ℕ → ℕ → ℕ → Going → Progress
went_by (Ok end) at to next going = record { at = next; to = end; going = going }
went_by (Err r) at to next going = record { at = at; to = to; going = Cut }

-- the line of a step behind a column, where it goes on, and whether there may be more
abbrev pub step_text : List ℕ → ℕ → List ℕ → Step → List ℕ
step_text front at u (Ok (Some i)) = front ++ line_of name_of at u
step_text front at u (Ok None) = cond (ltb 0 (length front)) (front ++ end_line at) []
step_text front at u (Err r) = line_of name_of at u

abbrev pub step_next : List ℕ → ℕ → List ℕ → Step → ℕ
step_next front at u (Ok (Some i)) = at + i.size
step_next front at u (Ok None) = cond (ltb 0 (length front)) (suc at) at
step_next front at u (Err r) = suc (at + length u)

abbrev pub step_going : Step → Going
step_going (Ok (Some i)) = On
step_going (Ok None) = Ended
step_going (Err r) = Ended

-- the step is the one that stands there, and the code is not too long
pub record Reading (code : List ℕ) (at : ℕ) (step : Step) : Type 0 where
  pub is : step ≡ decode last_opcode at (drop at code)
  pub small : length code ≤ code_limit

-- a short column, and none past the longest code's end
pub record Stepped (at : ℕ) (front old : List ℕ) (to : ℕ) : Type 0 where
  pub short : length front ≤ 11
  pub low : 0 < length front → at ≤ code_limit
  pub fits : to ≤ length old

-- the answer and every cell of the call that puts a step's line
pub record Steps (front code : List ℕ) (at : ℕ) (step : Step) (old : List ℕ) (to : ℕ) (p : Progress)
    (out : List ℕ) : Type 0 where
  pub answers : p ≡ went_by (placed_of old to (step_text front at (drop at code) step)) at to
      (step_next front at (drop at code) step) (step_going step)
  pub cells : out ≡ written old to (step_text front at (drop at code) step)

-- a code that is not too long, a cell for each of its offsets and its end at most, and a text that has the place
pub record Lent (code depths old : List ℕ) (to : ℕ) : Type 0 where
  pub small : length code ≤ code_limit
  pub cells : length depths ≤ suc (length code)
  pub fits : to ≤ length old

-- whether there may be more lines, and whether one was left for want of room
abbrev pub goes_on : Going → Bool
goes_on On = true
goes_on Ended = false
goes_on Cut = false

abbrev pub cut_off : Going → Bool
cut_off On = false
cut_off Ended = false
cut_off Cut = true

-- what is still to be put
abbrev pub left : List ℕ → List ℕ → ℕ → Progress → Part
left depths code size p =
    cond (goes_on p.going) (fit (size - p.to) (suc p.at) (lines_from depths code p.at)) (no_line (suc p.at) (cut_off p.going))

-- how much is left to do
abbrev pub turns : List ℕ → Progress → ℕ
turns code p = cond (goes_on p.going) (suc (length code - p.at)) 0

-- what was put from a place on, and what is still to be put, is the part of the lines from an offset on
pub record Fills (depths code : List ℕ) (at : ℕ) (old : List ℕ) (to : ℕ) (p : Progress) (out : List ℕ) : Type 0 where
  pub text : List ℕ
  pub puts : Put old to text p.to out
  pub fits : p.to ≤ length old
  pub part : fit (length old - to) (suc at) (lines_from depths code at) ≡ onto text (left depths code (length old) p)
  pub far : suc (length code) < p.at → p.at ≡ at

-- one line more: there is less left to do, and the next line is that of the instruction behind
pub record Told (depths code : List ℕ) (at : ℕ) (old : List ℕ) (to : ℕ) (p : Progress) (out : List ℕ) : Type 0 where
  pub fills : Fills depths code at old to p out
  pub fewer : turns code p < suc (length code - at)
  pub next : goes_on p.going ≡ true → p.at ≡ after_step (length code) at (decode last_opcode at (drop at code))

-- what is said where the lines end
unfoldable pub said_by : Progress → Listed
said_by p = said_of p.to (no_line (suc p.at) (cut_off p.going))

-- the answer and every cell of a part from an offset on, behind a text that ends at a place
pub record Goes (depths code : List ℕ) (at : ℕ) (old : List ℕ) (to : ℕ) (answer : Listed) (out : List ℕ) : Type 0 where
  pub answers : answer ≡ said_of (to + length (fit (length old - to) (suc at) (lines_from depths code at)).text)
      (fit (length old - to) (suc at) (lines_from depths code at))
  pub cells : out ≡ sets old to (fit (length old - to) (suc at) (lines_from depths code at)).text
