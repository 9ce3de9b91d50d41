-- What reading a listing promises: the answer, every lent cell, and that it is the listing's inverse (R71, R72).
-- Assumes nothing.
use Rattle.op.specs.declared.Refusal.{Refusal}
use Rattle.readback.specs.declared.BadLine.{BadLine}
use Rattle.std.specs.Prelude.{◌≡◌, List, [], ℕ, ◌<◌, ◌≤◌, length, get_or, Ok, Err, Result, None}
use Rattle.std.proofs.lemmas.List.Edits.{sets}
use Rattle.op.specs.Opcodes.{last_opcode}
use Rattle.code.specs.Reading.{instructions_in}
use Rattle.text.specs.Listing.{listing_of, most}
use Rattle.readback.specs.Reading.{Reading, Read, Stopped, reading}

abbrev pub bad_line : Refusal → ℕ → BadLine
bad_line r k = record { refusal = r; line = k }

-- the code's length, or the refusal and its line
abbrev pub answer_of : Reading → Result ℕ BadLine
answer_of (Read code) = Ok (length code)
answer_of (Stopped r k) = Err (bad_line r k)

-- the bytes that are stored: none after a refusal
abbrev pub stored_of : Reading → List ℕ
stored_of (Read code) = code
stored_of (Stopped r k) = []

-- the answer, and every lent cell (R71)
pub record Reads (text old : List ℕ) (answer : Result ℕ BadLine) (out : List ℕ) : Type 0 where
  pub answers : answer ≡ answer_of (reading (length old) text)
  pub cells : out ≡ sets old 0 (stored_of (reading (length old) text))

-- every number is a byte
abbrev pub Bytes : List ℕ → Type 0
Bytes code = (i : ℕ) → get_or code i 0 < 256

-- what it says that a text was read: it is the listing of its code, which fits and has no fault
pub record Listed (cells : ℕ) (text code : List ℕ) : Type 0 where
  pub text_is : text ≡ listing_of code
  pub fits : length code ≤ cells
  pub whole : (instructions_in last_opcode code).fault ≡ None

-- "reading its listing gives the same bytes", and a text that is read is the listing of what it gave (R72)
pub record ReadsBack : Type 0 where
  pub back : (cells : ℕ) (code : List ℕ) → Bytes code → length code ≤ most → length code ≤ cells
      → (instructions_in last_opcode code).fault ≡ None
      → reading cells (listing_of code) ≡ Read code
  pub only : (cells : ℕ) (text code : List ℕ) → reading cells text ≡ Read code → Listed cells text code
