-- How many values an instruction needs on the stack, which strict mode asks for: R77.
-- Assumes nothing.
use Rattle.std.specs.Prelude.{Bool, true, false, cond, ◌&&◌, List, [], ◌∷◌, ℕ, eqb}
use Prim.Native.String.{String}
use Rattle.op.specs.Names.{ascii, name_of}

-- the opcodes whose name begins so, or the one with just this name, need so many values
pub data Line : Type 0 where
  beginning : String → ℕ → Line
  called : String → ℕ → Line

-- "Binary, Compare and Inplace opcodes, BinarySubscr among them, and Rot2 and Dup2 need 2 values; Rot3 needs 3; the Unary
-- opcodes and Dup need 1; every other opcode needs none" (R77)
abbrev pub needs : List Line
needs =
    beginning "Binary" 2 ∷
    beginning "Compare" 2 ∷
    beginning "Inplace" 2 ∷
    called "Rot2" 2 ∷
    called "Dup2" 2 ∷
    called "Rot3" 3 ∷
    beginning "Unary" 1 ∷
    called "Dup" 1 ∷ []

-- whether a name begins with a text; whether it is that text
abbrev pub begins : List ℕ → List ℕ → Bool
begins [] name = true
begins (x ∷ xs) [] = false
begins (x ∷ xs) (y ∷ ys) = eqb x y && begins xs ys

abbrev pub is : List ℕ → List ℕ → Bool
is [] [] = true
is [] (y ∷ ys) = false
is (x ∷ xs) [] = false
is (x ∷ xs) (y ∷ ys) = eqb x y && is xs ys

-- what a name needs by the first line that fits it
abbrev pub need_by : List Line → List ℕ → ℕ
need_by [] name = 0
need_by (beginning text n ∷ lines) name = cond (begins (ascii text) name) n (need_by lines name)
need_by (called text n ∷ lines) name = cond (is (ascii text) name) n (need_by lines name)

-- what an opcode needs; none for a number that is no opcode's (R77)
unfoldable pub need_of : ℕ → ℕ
need_of k = need_by needs (name_of k)
