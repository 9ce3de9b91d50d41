-- What a turn of the program says: its part is the next of the listing. No contract of the toolchain's says what is
-- read or written.
-- Assumes nothing.
use Rattle.std.specs.Prelude.{◌≡◌, List, [], ◌++◌, ℕ, ◌<◌, length, take}
use Rattle.text.specs.Fitting.{text_of}
use Rattle.text.specs.Lines.{plain_lines}
use Rattle.text.specs.declared.Part.{Part}

-- the part stands at the front of the text, and what is left is left; behind a part that has bytes there are fewer
-- lines, and behind one that has none there is none
pub record Turns (code : List ℕ) (from : ℕ) (p : Part) (out : List ℕ) : Type 0 where
  pub part : text_of (plain_lines code from) ≡ take p.length out ++ text_of (plain_lines code p.next)
  pub fewer : 0 < p.length → length (plain_lines code p.next) < length (plain_lines code from)
  pub last : p.length ≡ 0 → plain_lines code p.next ≡ []
