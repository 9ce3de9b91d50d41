-- Numbers as bytes: "A u16 is little-endian; signed numbers are two's complement" (R13).
-- Assumes nothing.
use Rattle.std.specs.Prelude.{cond, List, [], ◌∷◌, ◌++◌, ℕ, suc, ◌+◌, ◌-◌, ◌*◌, ◌/◌, ◌%◌, ltb, ℤ, pos, negsuc, length, drop, get_or}
use Rattle.std.proofs.Math.IntN.{sub_ℕ}

-- the word at an index, its low byte first
abbrev pub word_at : List ℕ → ℕ → ℕ
word_at u i = get_or u i 0 + 256 * get_or u (i + 1) 0

-- a word's two bytes
abbrev pub word_bytes : ℕ → List ℕ
word_bytes w = w % 256 ∷ w / 256 ∷ []

-- the bytes of keyword names, each a word
abbrev pub names_bytes : List ℕ → List ℕ
names_bytes [] = []
names_bytes (w ∷ ws) = word_bytes w ++ names_bytes ws

-- the names in such bytes
abbrev pub words_in : List ℕ → List ℕ
words_in [] = []
words_in (a ∷ []) = []
words_in (a ∷ (b ∷ u)) = (a + 256 * b) ∷ words_in u

-- two's complement of m values: b, or b - m from the middle on
unfoldable pub signed : ℕ → ℕ → ℤ
signed m b = cond (ltb b (m / 2)) (pos b) (sub_ℕ b m)

-- the other way
abbrev pub unsigned : ℕ → ℤ → ℕ
unsigned m (pos n) = n
unsigned m (negsuc n) = m - suc n

-- a list with xs in the place of its first elements
abbrev pub front : {A : Type 0} → List A → List A → List A
front xs l = xs ++ drop (length xs) l
