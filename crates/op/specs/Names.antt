-- The names of the opcodes as bytes: op.rs, `enum Opcode`.
-- Assumes nothing.
use Rattle.std.specs.Prelude.{cond, List, [], ◌∷◌, ◌++◌, ℕ, ◌+◌, ◌-◌, leb, length, get_or, take, drop}
use Prim.Native.Char.{code}
use Prim.Native.String.{String, [] as none, ◌∷◌ as ◌then◌}
use Rattle.op.specs.Opcodes.{Row, op, table, row_of}

-- the bytes of a text: each character's number
abbrev pub ascii : String → List ℕ
ascii none = []
ascii (◌then◌ c s) = code c ∷ ascii s

-- a row's name
abbrev pub name_in : Row → List ℕ
name_in (op name shape rule) = ascii name

-- an opcode's name; nothing for a number that is no opcode's (R5)
unfoldable pub name_of : ℕ → List ℕ
name_of k = name_in (row_of k)

-- all names, one behind the other
abbrev pub joined : List Row → List ℕ
joined [] = []
joined (r ∷ rs) = name_in r ++ joined rs

-- where each begins, and where the last ends
abbrev pub begins : ℕ → List Row → List ℕ
begins k [] = k ∷ []
begins k (r ∷ rs) = k ∷ begins (k + length (name_in r)) rs

-- the text of all names
unfoldable pub name_text : List ℕ
name_text = joined table

-- where in it each name begins
unfoldable pub name_starts : List ℕ
name_starts = begins 0 table

-- the part of a text from a to e; nothing where there is no such part
abbrev pub between : List ℕ → ℕ → ℕ → List ℕ
between text a e = cond (leb e (length text)) (take (e - a) (drop a text)) []

-- the name of opcode k in a text, by where the names begin in it (R5)
unfoldable pub name_by : List ℕ → List ℕ → ℕ → List ℕ
name_by text starts k = between text (get_or starts k 0) (get_or starts (k + 1) 0)
