-- A line in its pieces is the line of the listing, and what is said of it.
-- Assumes nothing.
use Rattle.code.specs.Decode.{instr}
use Rattle.code.specs.Decode.{Step}
use Rattle.std.specs.Prelude.{Ok, Err, Some, None}
use mathlib.Core.Path.{◌≡◌, sym, ap, ◌∙◌}
use mathlib.Core.List.{List, [], ◌∷◌, ◌++◌, append_assoc}
use Prim.Native.Nat.{ℕ, ◌≤◌, ◌<◌}
use native.Mathlib.Omega.{arith}
use lib.ListN.{length, drop}
use borrow.Author.Tests.{le-leb, lt-leb}
use Rattle.op.specs.Opcodes.{last_opcode}
use Rattle.op.specs.Names.{ascii, name_of}
use Rattle.op.specs.Refusals.{number_of}
use Rattle.op.specs.declared.Operand.{Operand}
use Rattle.op.specs.declared.Operand.TheVariants as O
use Rattle.op.specs.declared.Refusal.{Refusal}
use Rattle.op.specs.declared.Refusal.TheVariants.{TooLarge}
use Rattle.code.specs.Bytes.{words_in}
use Rattle.code.specs.Decode.{decode, names_at}
use Rattle.code.specs.Tables.{code_limit}
use Rattle.code.proofs.Decoding.{decoded_ends}
use Rattle.text.specs.Decimal.{decimal}
use Rattle.text.specs.Fields.{operands_at, line_text, fault_text, Found}
use Rattle.text.specs.Listing.{line, header, fault_line, most, first_line, line_by, line_of}
use Rattle.text.specs.Lines.{end_line}
use Rattle.text.specs.Row.{row_of, row_text, target_of, target_column}

-- four fields with their tabs and the line's end, however they are grouped
regrouped : (a n o t : List ℕ) → (a ++ (9 ∷ [])) ++ (n ++ (9 ∷ o ++ (9 ∷ t ++ (10 ∷ [])))) ≡ (a ++ (9 ∷ (n ++ (9 ∷ (o ++ (9 ∷ t)))))) ++ (10 ∷ [])
regrouped a n o t = simp append_assoc

pub fault_parts : (at : ℕ) (r : Refusal) → fault_text at (number_of r) ≡ fault_line at r
unfolding fault_line
fault_parts at r = simp append_assoc

-- the line of an instruction, and of a fault
pub line_of_lem : (name : ℕ → List ℕ) (at : ℕ) (u : List ℕ) (k : ℕ) (o : Operand) (z : ℕ)
    → decode last_opcode at u ≡ Ok (Some (instr k o z)) → line_of name at u ≡ line_text at (name k) o u
unfolding line_of
line_of_lem name at u k o z e =
    ap (λ (s : Step). line_by name at u s) e
    ∙ sym (regrouped (decimal at) (name k) (operands_at o u) (target_column (target_of at o)))

-- with op's names it is the text of a row
pub line_row : (at : ℕ) (u : List ℕ) (k : ℕ) (o : Operand) (z : ℕ) → decode last_opcode at u ≡ Ok (Some (instr k o z))
    → line_of name_of at u ≡ line (row_text (row_of at k o (words_in (names_at last_opcode u))))
unfolding line_of row_text
line_row at u k o z e = ap (λ (s : Step). line_by name_of at u s) e

pub fault_of : (name : ℕ → List ℕ) (at : ℕ) (u : List ℕ) (r : Refusal) → decode last_opcode at u ≡ Err r
    → line_of name at u ≡ fault_line at r
unfolding line_of
fault_of name at u r e = ap (λ (s : Step). line_by name at u s) e

pub no_line : (name : ℕ → List ℕ) (at : ℕ) (u : List ℕ) → decode last_opcode at u ≡ (Ok None) → line_of name at u ≡ []
unfolding line_of
no_line name at u e = ap (λ (s : Step). line_by name at u s) e

-- the line of the code's end
pub end_of : (at : ℕ) (u : List ℕ) → line_text at (ascii "end") O.None u ≡ end_line at
unfolding end_line
end_of at u = regrouped (decimal at) (ascii "end") (operands_at O.None u) (target_column (target_of at O.None))

-- where an instruction is found
pub found : (code : List ℕ) (at k : ℕ) (o : Operand) (z : ℕ) → length code ≤ code_limit
    → decode last_opcode at (drop at code) ≡ Ok (Some (instr k o z)) → Found at o (drop at code)
found code at k o z h e =
    record { opcode = k; size = z; is = e; low = omega (arith, decoded_ends last_opcode at code k o z e) }

-- the first line
pub first_header : (size : ℕ) → size ≤ most → header ≡ first_line size
unfolding first_line
first_header size h = rw (le-leb size most h)

pub first_fault : (size : ℕ) → most < size → fault_line 0 TooLarge ≡ first_line size
unfolding first_line
first_fault size h = rw (lt-leb size most h)
