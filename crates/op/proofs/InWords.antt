-- Rows in words: one test that antt computes over all bytes turns a row into the rule at each opcode.
-- Assumes nothing.
use mathlib.Core.Path.{◌≡◌, ap, ◌∙◌}
use mathlib.Core.Bool.{Bool}
use mathlib.Core.List.{List}
use Prim.Native.Nat.{ℕ, ◌/◌, ◌%◌, ◌<◌}
use native.Mathlib.Omega.{arith}
use lib.Dec.{T, eqb, eqb→eq}
use lib.ListN.{get_or}
use Rattle.base.proofs.Keys.{every_from, in_range}
use Rattle.op.specs.Inner.{number_in}

-- the number of a byte by a row and the word behind it
abbrev pub in_row : List ℕ → ℕ → ℕ → ℕ
in_row words rest k = number_in (get_or words (k / 8) rest) (k % 8)

-- whether that is the number which f gives
abbrev pub gives : List ℕ → ℕ → (ℕ → ℕ) → ℕ → Bool
gives words rest f k = eqb (in_row words rest k) (f k)

in_words : (words : List ℕ) (rest : ℕ) (f : ℕ → ℕ) → T (every_from (gives words rest f) 0 256) → (k : ℕ) → k < 256
    → in_row words rest k ≡ f k
in_words words rest f t k l =
    eqb→eq (in_row words rest k) (f k) (in_range (gives words rest f) 0 256 k (omega arith) (omega arith) t)

-- so it is of what the code reads: a word, and a number in it
pub read_in : (words : List ℕ) (rest : ℕ) (f : ℕ → ℕ) → T (every_from (gives words rest f) 0 256)
    → (k word r : ℕ) → k < 256 → word ≡ get_or words (k / 8) rest → r ≡ number_in word (k % 8) → r ≡ f k
read_in words rest f t k word r l w n = n ∙ ap (λ (x : ℕ). number_in x (k % 8)) w ∙ in_words words rest f t k l
