-- A law of the given numbers: a value that fits a byte.
-- Assumes nothing.
use Rattle.op.specs.declared.Operand.{Operand}
use Rattle.std.specs.Prelude.{Option}
use mathlib.Core.Path.{◌≡◌}
use Prim.Native.Nat.{ℕ, ◌<◌}
use borrow.Author.Tests.{lt-ltb}
use Rattle.api.specs.Given.{byte}

pub fits : (x : ℕ) (o : Option Operand) → x < 256 → o ≡ byte x o
fits x o h = simp (lt-ltb x 256 h)
