-- What the reading of a listing tells: the code's length, or the refusal and, below it, the line, for 18 too (R62, R71).
-- Assumes nothing.
use Rattle.std.specs.Prelude.{◌≡◌, List, ℕ, ◌+◌, ◌*◌, ◌%◌, Result, Ok, Err}
use Rattle.op.specs.Refusals.{half, number_of}
use Rattle.readback.specs.Promise.{Reads}
use Rattle.readback.specs.declared.BadLine.{BadLine}

-- an answer's number; the line modulo 2^32
abbrev pub read_answer : Result ℕ BadLine → ℕ
read_answer (Ok size) = size
read_answer (Err bad) = number_of bad.refusal * half + bad.line % half

-- w is the number of the answer that reading promises, and out what it leaves in the lent code
pub record ReadsTold (text old : List ℕ) (w : ℕ) (out : List ℕ) : Type 0 where
  pub answer : Result ℕ BadLine
  pub promise : Reads text old answer out
  pub number : w ≡ read_answer answer
