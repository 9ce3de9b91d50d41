-- An instruction set as demand 3 sees it: instructions, their bytes, and what they do to the depth.
-- Assumes nothing.
use Rattle.std.specs.Prelude.{Bool, List, ℕ, ℤ, Option}

pub record Isa : Type 1 where
  -- instructions that don't jump, jumps without their displacement, and instructions as they are read
  pub Plain : Type 0
  pub Jump : Type 0
  pub Ins : Type 0
  pub plain : Plain → Ins
  -- a jump with its displacement
  pub jump : Jump → ℤ → Ins
  pub bytes : Plain → List ℕ
  -- a jump's first byte; the displacement's two follow
  pub opcode : Jump → ℕ
  -- the depth behind an instruction, or none where it is not in 0 to 65,535
  pub net : Plain → ℕ → Option ℕ
  pub jnet : Jump → ℕ → Option ℕ
  -- the depth that a taken jump arrives with
  pub taken : Jump → ℕ → Option ℕ
  -- whether the code is dead behind it
  pub stops : Plain → Bool
  pub jstops : Jump → Bool
