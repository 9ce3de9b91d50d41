-- Laws of the writer over a given operand, and that a step tells what was written.
-- Assumes nothing.
use Rattle.op.specs.declared.Refusal.{Refusal}
use Rattle.std.specs.Prelude.{Some, None, Option, Ok, Err, Result}
use mathlib.Core.Path.{◌≡◌, refl, sym, ap, ◌∙◌}
use mathlib.Core.Bool.{Bool, true, false, cond}
use mathlib.Core.List.{List}
use Prim.Native.Nat.{ℕ, ◌<◌}
use lib.ListN.{length}
use borrow.Author.Tests.{lt-leb}
use Rattle.op.specs.Opcodes.{last_opcode, known, row_of}
use Rattle.op.specs.Shapes.{shape_of, shape_in, operand_shape}
use Rattle.op.specs.declared.Operand.{Operand}
use Rattle.op.specs.declared.Refusal.TheVariants.{UnknownOpcode, TooManyKeywords}
use Rattle.code.specs.Encode.{encode, written_of, filled, SignsFit}
use Rattle.code.specs.Decode.{decode}
use Rattle.code.proofs.Decoding.{shape_known}
use Rattle.code.proofs.Writing.{written_unknown, written_many, goes, written_decodes}
use Rattle.api.specs.Answers.{refused}
use Rattle.api.specs.Steps.{unwritten, written_answer, WritesGiven, instruction, step_told}
use Rattle.api.specs.Told.{numbers}

-- over 255 names: 1, then 7
many : (k n : ℕ) → 255 < n → unwritten k n ≡ cond (known k) TooManyKeywords UnknownOpcode
many k n h = rw (lt-leb n 255 h)

module _ (k : ℕ) (o : Operand) (n room : ℕ) (h : 255 < n) where
  by_known : (b : Bool) → known k ≡ b → Err (cond b TooManyKeywords UnknownOpcode) ≡ written_of k o n room
  unfolding shape_of
  by_known true e = written_many k o n room (shape_in (row_of k)) (rw e) h
  by_known false e = written_unknown k o n room UnknownOpcode (rw e)

  many_written : Err (unwritten k n) ≡ written_of k o n room
  many_written = ap Err (many k n h) ∙ by_known (known k) refl

-- over 255 names nothing is written, whatever is given
pub writes_many : (k : ℕ) (g : Option Operand) (names out : List ℕ) (answer : ℕ) → 255 < length names
    → answer ≡ refused (unwritten k (length names))
    → WritesGiven k g names out answer out
writes_many k (Some o) names out answer h e =
    let w = many_written k o (length names) (length out) h in
    record {
      answers = e ∙ ap written_answer w;
      cells = ap (λ (x : Result ℕ Refusal). filled x (encode k o names) out) w;
    }
writes_many k None names out answer h e = record { answers = e; cells = refl }

-- what was written, a step tells, wherever it is read
pub written_told : (k : ℕ) (o : Operand) (names out : List ℕ) (answer : ℕ) (out' : List ℕ) (z : ℕ)
    → WritesGiven k (Some o) names out answer out'
    → written_of k o (length names) (length out) ≡ Ok z → SignsFit o → (at : ℕ)
    → step_told at (decode last_opcode at out') ≡ numbers (instruction at k o z)
written_told k o names out answer out' z w e signs at =
    let g = goes k o (length names) (length out) z e in
    let l = shape_known k (operand_shape o) g.shape in
    ap (step_told at) (written_decodes k o names out (Ok z) out' (record { answers = sym e; cells = w.cells }) z
    refl signs last_opcode l at)
