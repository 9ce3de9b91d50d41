-- "Under every table of opcodes, no instruction's bytes are a proper beginning of another's, so two different lists of
-- instructions never give the same code" (R60). The table is told by its last opcode, `last`.
-- Assumes nothing.
use Rattle.std.specs.Prelude.{◌≡◌, ℕ, ◌≤◌}
use mathlib.Core.List.{List, [], ◌∷◌, ◌++◌, Memᴰ}
use Rattle.code.specs.Encode.{Formed}
use Rattle.code.specs.Reading.{Instruction}
use Rattle.demand.specs.Machine.{isa}

-- an instruction that can be written under a table that ends with the opcode `last`
pub record WellFormed (last : ℕ) (i : Instruction) : Type 0 where
  pub known : i.opcode ≤ last
  pub formed : Formed i.opcode i.operand i.names

-- the bytes of a list of instructions
abbrev pub all_bytes : List Instruction → List ℕ
all_bytes [] = []
all_bytes (i ∷ is) = isa.bytes i ++ all_bytes is

abbrev pub AllFormed : ℕ → List Instruction → Type 0
AllFormed last is = (i : Instruction) → Memᴰ i is → WellFormed last i

-- R60
abbrev pub PrefixFree : Type 0
PrefixFree =
    (last : ℕ) (i j : Instruction) (rest : List ℕ) → WellFormed last i → WellFormed last j
    → isa.bytes i ++ rest ≡ isa.bytes j → (i ≡ j) × (rest ≡ [])

-- R60
abbrev pub OneList : Type 0
OneList =
    (last : ℕ) (is js : List Instruction) → AllFormed last is → AllFormed last js → all_bytes is ≡ all_bytes js → is ≡ js
