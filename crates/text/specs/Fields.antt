-- The pieces in which a line is written, and what their writers ask; no rule says anything of them.
-- Assumes nothing.
use Rattle.code.specs.Decode.{instr}
use Rattle.std.specs.Prelude.{◌≡◌, List, [], ◌∷◌, ◌++◌, ℕ, ◌≤◌, length, Ok, Some}
use Rattle.op.specs.Opcodes.{last_opcode}
use Rattle.op.specs.declared.Operand.{Operand}
use Rattle.code.specs.Bytes.{words_in}
use Rattle.code.specs.Decode.{decode, names_at}
use Rattle.code.specs.Tables.{code_limit}
use Rattle.text.specs.Decimal.{decimal}
use Rattle.text.specs.Parts.{led}
use Rattle.text.specs.Row.{wholes, whole_texts, operands_of, target_of, operand_column, target_column}

-- keyword names in bytes, a comma in front of each
abbrev pub names_text : List ℕ → List ℕ
names_text bytes = led 44 (whole_texts (wholes (words_in bytes)))

-- the operands of a keyword call, its names in bytes
abbrev pub call_text : ℕ → ℕ → List ℕ → List ℕ
call_text positional n bytes = decimal positional ++ (44 ∷ decimal n ++ names_text bytes)

-- the offset and a tab
abbrev pub front_text : ℕ → List ℕ
front_text at = decimal at ++ (9 ∷ [])

-- a tab, the target and the line's end
abbrev pub tail_text : ℕ → Operand → List ℕ
tail_text at o = 9 ∷ target_column (target_of at o) ++ (10 ∷ [])

-- the operands of what stands at the front of u
abbrev pub operands_at : Operand → List ℕ → List ℕ
operands_at o u = operand_column (operands_of o (words_in (names_at last_opcode u)))

-- all behind the name
abbrev pub back_text : ℕ → Operand → List ℕ → List ℕ
back_text at o u = 9 ∷ operands_at o u ++ tail_text at o

-- a line in its three pieces
abbrev pub line_text : ℕ → List ℕ → Operand → List ℕ → List ℕ
line_text at name o u = front_text at ++ (name ++ back_text at o u)

-- the fault line, of a number
abbrev pub fault_text : ℕ → ℕ → List ℕ
fault_text at n = 33 ∷ 9 ∷ (front_text at ++ (decimal n ++ (10 ∷ [])))

-- o is the operand of the instruction at the front of u, the code from an offset on
pub record Found (at : ℕ) (o : Operand) (u : List ℕ) : Type 0 where
  pub opcode : ℕ
  pub size : ℕ
  pub is : decode last_opcode at u ≡ Ok (Some (instr opcode o size))
  pub low : at ≤ code_limit

-- an offset of a code, and an operand that has room behind a name
pub record Lean (at : ℕ) (o : Operand) (u : List ℕ) : Type 0 where
  pub low : at ≤ code_limit
  pub back : length (back_text at o u) ≤ 1558
