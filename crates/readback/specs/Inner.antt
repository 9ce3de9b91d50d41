-- What the functions that read a line promise each other.
-- Assumes nothing.
use Rattle.std.specs.Prelude.{Option}
use Rattle.readback.specs.declared.numbers.Small.TheVariants as Z
use Rattle.words.specs.declared.Signed.TheVariants as W
use Rattle.readback.specs.declared.operands.Spoken.{Spoken}
use Rattle.readback.specs.declared.numbers.Numbers.{Numbers}
use Rattle.readback.specs.declared.numbers.Small.{Small}
use Rattle.words.specs.declared.Signed.{Signed}
use Rattle.words.specs.declared.NumberError.{NumberError}
use Rattle.std.specs.Prelude.{◌≡◌, Bool, true, false, cond, List, [], ◌∷◌, ◌++◌, ℕ, suc, ◌+◌, ◌-◌, ◌*◌, ◌%◌, ◌≤◌, ◌<◌, leb, ltb, eqb, ℤ, pos, negsuc, length, get_or, take, drop, set, replicate, Ok, Err, Some, None, Result}
use Rattle.op.specs.Names.{name_in}
use Rattle.op.specs.Opcodes.{Row as Opcode}
use Rattle.op.specs.Opcodes.{table}
use Rattle.op.specs.declared.Operand.{Operand}
use Rattle.op.specs.declared.Shape.{Shape}
use Rattle.text.specs.Parts.{split}
use Rattle.text.specs.Reading.{same, read_whole, read_all, read_operands}
use Rattle.text.specs.Row.{wholes, dash}
use Rattle.readback.specs.Operands.{Said, and_then, operand_for}

-- parts

-- the place of the first s in a text, or its length
abbrev pub cut_at : ℕ → List ℕ → ℕ
cut_at s [] = 0
cut_at s (x ∷ t) = let n = cut_at s t in cond (eqb x s) 0 (suc n)

-- names

-- a slot from a text's length and four of its letters
unfoldable pub slot_of : List ℕ → ℕ
slot_of t =
    let n = length t in
    (108 * (n % 64) + 98 * get_or t 0 0
    + (174 * get_or t (n - 1) 0 + 157 * get_or t (n - 2) 0 + 167 * get_or t (n - 6) 0)) % 512

-- each opcode, from number k on, in the slot of its name
abbrev pub placed : ℕ → List Opcode → List ℕ → List ℕ
placed k [] slots = slots
placed k (r ∷ rs) slots = placed (suc k) rs (set slots (slot_of (name_in r)) k)

-- the opcode of each slot; one past the last in the others
unfoldable pub slot_table : List ℕ
slot_table = placed 0 table (replicate 512 131)

-- numbers

-- a number by its sign and its distance from zero, or from -1
abbrev pub whole : Bool → ℕ → ℤ
whole false n = pos n
whole true n = negsuc n

-- the numbers of cells, of which only the first has a sign
abbrev pub sign_first : Bool → List ℕ → List ℤ
sign_first minus [] = []
sign_first minus (n ∷ ns) = whole minus n ∷ wholes ns

-- a number in 16 bits and a sign
unfoldable pub small_of : Option ℤ → Option Small
small_of None = None
small_of (Some (pos n)) = cond (ltb n 65536) (Some (Z.Plus n)) None
small_of (Some (negsuc n)) = cond (ltb n 65536) (Some (Z.Minus n)) None

-- the same of a number in 64 bits and a sign
unfoldable pub narrow_of : Result Signed NumberError → Option Small
narrow_of (Ok (W.Plus v)) = cond (leb v 65535) (Some (Z.Plus v)) None
narrow_of (Ok (W.Minus v)) = cond (leb v 65536) (cond (eqb v 0) None (Some (Z.Minus (v - 1)))) None
narrow_of (Err e) = None

-- the most numbers that a column has: three in front of 255 keyword names
abbrev pub most_numbers : ℕ
most_numbers = 258

-- cells for the numbers of a column
abbrev pub Cells : List ℕ → Type 0
Cells cells = length cells ≡ most_numbers

-- numbers in front of what is read behind them
abbrev pub before : List ℤ → Option (List ℤ) → Option (List ℤ)
before zs None = None
before zs (Some more) = Some (zs ++ more)

-- the parts behind the comma at a place, none at the end
abbrev pub behind_comma : List ℕ → List (List ℕ)
behind_comma [] = []
behind_comma (x ∷ t) = split 44 t

-- n numbers of a column are in the cells, and a place is where the last of them ends
pub record Column (c : List ℕ) (at n : ℕ) (minus : Bool) (cells : List ℕ) : Type 0 where
  pub inside : at ≤ length c
  pub some : 0 < n
  pub few : n ≤ most_numbers
  pub room : Cells cells
  pub numbers : same c dash ≡ false
  pub read : read_all (split 44 c) ≡ before (sign_first minus (take n cells)) (read_all (behind_comma (drop at c)))

-- the first number of a column, and where it ends
pub record Begun (c : List ℕ) (end : ℕ) (minus : Bool) (first : ℕ) (cells : List ℕ) : Type 0 where
  pub room : Cells cells
  pub numbers : same c dash ≡ false
  pub ends : end ≡ cut_at 44 c
  pub is : read_whole (take end c) ≡ Some (whole minus first)

abbrev pub numbers_of : ℕ → Bool → Numbers
numbers_of count minus = record { count = count; minus = minus }

-- the cells hold the column's numbers, or no shape has them
abbrev pub Spells : List ℕ → Option Numbers → List ℕ → Type 0
Spells c (Some are) cells = (are.count ≤ most_numbers) × (read_operands c ≡ Some (sign_first are.minus (take are.count cells)))
Spells c None cells = (s : Shape) → and_then (read_operands c) (operand_for s) ≡ None

-- operands

abbrev pub spoken_with : Operand → ℕ → Spoken
spoken_with o names = record { operand = o; names = names }

-- what is said by so many numbers, the last of which are the names
unfoldable pub spoken_of : ℕ → Option Said → Option Spoken
spoken_of count None = None
spoken_of count (Some x) = Some (spoken_with x.operand (count - length x.names))

-- what cells say by a shape
abbrev pub spoken_by : Shape → Bool → List ℕ → Option Spoken
spoken_by s minus cells = spoken_of (length cells) (operand_for s (sign_first minus cells))

-- an operand, with the names behind its numbers that it counts
abbrev pub told_of : Operand → (places names count : ℕ) → Option Spoken
told_of o places names count =
    cond (leb places count) (cond (eqb (count - places) names) (Some (spoken_with o places)) None) None
