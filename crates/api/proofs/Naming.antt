-- Laws of the exported name: too little room, written.
-- Assumes nothing.
use mathlib.Core.Path.{◌≡◌, ap, ◌∙◌}
use mathlib.Core.List.{List}
use Prim.Native.Nat.{ℕ, ◌≤◌, ◌<◌}
use native.Mathlib.Omega.{arith}
use lib.ListN.{length}
use borrow.Author.Tests.{lt-leb, le-leb}
use Rattle.op.specs.Opcodes.{last_opcode, known}
use Rattle.op.specs.Names.{name_of}
use Rattle.op.specs.declared.Refusal.TheVariants.{Full}
use Rattle.op.specs.declared.Table.TheVariants.{Text}
use Rattle.code.specs.Bytes.{front}
use Rattle.api.specs.Answers.{refused, name_answer, name_cells}

module _ (k : ℕ) (name out : List ℕ) (h : k ≤ last_opcode) (is : name ≡ name_of k) where
  pub name_full : length out < length name → (refused (Full Text) ≡ name_answer k (length out)) × (out ≡ name_cells k out)
  unfolding known name_answer name_cells
  name_full l =
      let m : length out < length (name_of k) = rw is at l in
      (simp (le-leb k last_opcode h, lt-leb _ _ m), simp (le-leb k last_opcode h, lt-leb _ _ m))

  pub name_written : length name ≤ length out → (length name ≡ name_answer k (length out))
      × (front name out ≡ name_cells k out)
  unfolding known name_answer name_cells
  name_written l =
      let m : length (name_of k) ≤ length out = rw is at l in (
        ap length is ∙ simp (le-leb k last_opcode h, le-leb _ _ m),
        ap (λ (n : List ℕ). front n out) is
            ∙ simp (le-leb k last_opcode h, le-leb _ _ m),
      )
