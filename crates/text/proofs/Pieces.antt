-- Laws of the listings in lines: what a step's line is, what fits, and what a part leaves.
-- Assumes nothing.
use Rattle.code.specs.Decode.{instr}
use Rattle.code.specs.Decode.{Step}
use Rattle.std.specs.Prelude.{Ok, Err, Some, None}
use mathlib.Core.Path.{◌≡◌, refl, sym, ap, ◌∙◌}
use mathlib.Core.Bool.{true, false}
use mathlib.Core.List.{List, [], ◌∷◌, ◌++◌, append_assoc}
use Prim.Native.Nat.{ℕ, suc, ◌+◌, ◌-◌, ◌≤◌, ◌<◌}
use native.Mathlib.Omega.{arith}
use lib.ListN.{length, drop, length-drop}
use borrow.Author.Tests.{le-leb, lt-leb}
use Rattle.op.specs.Names.{name_of}
use Rattle.op.specs.Opcodes.{last_opcode}
use Rattle.op.specs.declared.Operand.{Operand}
use Rattle.op.specs.declared.Refusal.{Refusal}
use Rattle.code.specs.Decode.{decode}
use Rattle.code.proofs.Instructions.{reads_on, reads_end, reads_fault}
use Rattle.text.specs.Fitting.{Line, line_to, Part, no_line, onto, fit}
use Rattle.text.specs.Lines.{column_of, end_lines, read_lines, lines_from}
use Rattle.text.specs.Listing.{line_by, line_of}
use Rattle.text.proofs.Whole.{faulted}

line_is : (at : ℕ) (u : List ℕ) (s : Step) → decode last_opcode at u ≡ s → line_of name_of at u ≡ line_by name_of at u s
unfolding line_of
line_is at u s e = ap (line_by name_of at u) e

-- the lines from an offset on, by the step there
module _ (depths code : List ℕ) (at : ℕ) where
  pub from_line : (k : ℕ) (o : Operand) (z : ℕ) → decode last_opcode at (drop at code) ≡ Ok (Some (instr k o z))
      → lines_from depths code at
      ≡ line_to (column_of depths at ++ line_of name_of at (drop at code)) (suc (at + z)) ∷ lines_from depths code (at + z)
  unfolding lines_from
  from_line k o z e =
      ap (read_lines depths code) (reads_on last_opcode code at k o z e)
      ∙ ap (λ (l : List ℕ). line_to (column_of depths at ++ l) (suc (at + z)) ∷ lines_from depths code (at + z))
      (sym (line_is at (drop at code) (Ok (Some (instr k o z))) e))

  pub from_end : decode last_opcode at (drop at code) ≡ (Ok None) → lines_from depths code at ≡ end_lines depths at
  unfolding lines_from
  from_end e = ap (read_lines depths code) (reads_end last_opcode code at e)

  pub from_fault : (r : Refusal) → decode last_opcode at (drop at code) ≡ Err r
      → lines_from depths code at
      ≡ line_to (line_of name_of at (drop at code)) (suc (suc (at + length (drop at code)))) ∷ []
  unfolding lines_from
  from_fault r e =
      let u = drop at code in
      let ends : length code ≡ at + length u = omega (arith, faulted at u r e, length-drop at code) in
      ap (read_lines depths code) (reads_fault last_opcode code at r e)
      ∙ ap (λ (l : List ℕ). line_to l (suc (suc (length code))) ∷ []) (sym (line_is at u (Err r) e))
      ∙ ap (λ (n : ℕ). line_to (line_of name_of at u) (suc (suc n)) ∷ []) ends

-- a line that fits, and one that does not
pub fit_line : (room cursor : ℕ) (l : Line) (ls : List Line) → length l.text ≤ room
    → fit room cursor (l ∷ ls) ≡ onto l.text (fit (room - length l.text) l.next ls)
unfolding fit
fit_line room cursor l ls h = rw (le-leb (length l.text) room h)

pub fit_full : (room cursor : ℕ) (l : Line) (ls : List Line) → room < length l.text
    → fit room cursor (l ∷ ls) ≡ no_line cursor true
unfolding fit
fit_full room cursor l ls h = rw (lt-leb (length l.text) room h)

pub fit_none : (room cursor : ℕ) → fit room cursor [] ≡ no_line cursor false
unfolding fit
fit_none room cursor = refl

-- a text in front of a text in front of a part
pub onto_onto : (a b : List ℕ) (p : Part) → onto a (onto b p) ≡ onto (a ++ b) p
onto_onto a b p = ap (λ (t : List ℕ). record { text = t; next = p.next; full = p.full })
    (sym (append_assoc a b p.text))
