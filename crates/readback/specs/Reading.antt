-- A whole text: "the first bad line only", with its number (R71).
-- Assumes nothing.
use Rattle.std.specs.Prelude.{cond, List, [], ◌∷◌, ◌++◌, ℕ, suc, ◌+◌, ◌-◌, min, length, take, drop}
use Rattle.op.specs.declared.Refusal.{Refusal}
use Rattle.op.specs.declared.Refusal.TheVariants.{NotALine}
use Rattle.text.specs.Listing.{header, most}
use Rattle.text.specs.Parts.{split}
use Rattle.text.specs.Reading.{same}
use Rattle.readback.specs.Formed.{Judged, Good, Bad, judge}

-- the code that a text says, or its first bad line
pub data Reading : Type 0 where
  Read : List ℕ → Reading
  Stopped : Refusal → ℕ → Reading

-- bytes in front of what is read behind them
abbrev pub onto : List ℕ → Reading → Reading
onto bytes (Read more) = Read (bytes ++ more)
onto bytes (Stopped r k) = Stopped r k

-- line k, and what is read behind its bytes
abbrev pub behind : ℕ → Judged → (List ℕ → Reading) → Reading
behind k (Bad r) rest = Stopped r k
behind k (Good bytes) rest = onto bytes (rest bytes)

-- the lines from line k on, whose bytes stand from an offset on; the last ends in LF, so that nothing stands behind it
unfoldable pub lines_from : (k at room : ℕ) → List (List ℕ) → Reading
lines_from k at room [] = Read []
lines_from k at room (t ∷ []) = cond (same t []) (Read []) (Stopped NotALine k)
lines_from k at room (t ∷ u ∷ ts) =
    behind k (judge at (room - at) t) (λ bytes. lines_from (suc k) (at + length bytes) room (u ∷ ts))

-- "in the slice or in 65,536 bytes": the room of so many cells (R70)
abbrev pub room_of : ℕ → ℕ
room_of cells = min cells most

-- "a missing header is line 1" (R71)
unfoldable pub reading : (cells : ℕ) (text : List ℕ) → Reading
reading cells text =
    cond (same (take (length header) text) header)
    (lines_from 2 0 (room_of cells) (split 10 (drop (length header) text))) (Stopped NotALine 1)
