-- Calls that make a listing part by part: what they put, one part behind the other.
-- Assumes nothing.
use Rattle.std.specs.Prelude.{◌≡◌, List, [], ◌++◌, ℕ, ◌<◌, length, take}
use Rattle.text.specs.Fitting.{made, Line, listed_of, listed_in}
use Rattle.text.specs.Lines.{plain_lines, checked_lines, checked_listing_of}
use Rattle.text.specs.Listing.{listing_of}

-- calls from a cursor on, each with any lent text, until no line is left, and all that they put
pub data Runs (lines : ℕ → List Line) : ℕ → List ℕ → Type 0 where
  ends : (cursor : ℕ) → lines cursor ≡ [] → Runs lines cursor []
  goes : (cursor : ℕ) (old : List ℕ) (n next : ℕ) (text : List ℕ) → listed_of (lines cursor) cursor old ≡ made n next
      → Runs lines next text
      → Runs lines cursor (take n (listed_in (lines cursor) cursor old) ++ text)

-- from the first cursor on they put the listing, with any texts lent, and each that puts anything leaves fewer lines
-- (R67)
pub record Joins : Type 0 where
  pub plain : (code text : List ℕ) → Runs (plain_lines code) 0 text → text ≡ listing_of code
  pub checked : (code depths text : List ℕ) → Runs (checked_lines code depths) 0 text
      → text ≡ checked_listing_of code depths
  pub fewer : (code old : List ℕ) (cursor n next : ℕ) → listed_of (plain_lines code cursor) cursor old ≡ made n next
      → 0 < n
      → length (plain_lines code next) < length (plain_lines code cursor)
