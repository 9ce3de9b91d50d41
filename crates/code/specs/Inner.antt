-- What code's private functions ask and promise: no rule says it, and no reader has to believe it.
-- Assumes nothing.
use Rattle.std.specs.Prelude.{◌≡◌, List, ℕ, ◌≤◌, length, Ok, Err, Some, None, Result}
use Rattle.op.specs.Shapes.{operand_shape, size_of}
use Rattle.op.specs.declared.Operand.{Operand}
use Rattle.code.specs.Decode.{names_in}

-- what the bytes are written under: the operand counts the names, and there is room
pub record Writable (o : Operand) (names out : List ℕ) : Type 0 where
  pub count : names_in o ≡ length names
  pub fits : size_of (operand_shape o) (length names) ≤ length out
