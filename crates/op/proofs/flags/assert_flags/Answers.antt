-- `op::flags::assert_flags` meets its contract, by what `as_operand` ensures.
-- Assumes nothing.
use mathlib.Core.Path.{◌∙◌, sym, ap}
use Prim.Native.Nat.{◌+◌}
use Rattle.op.specs.Flags.{flags_of}
use Rattle.op.proofs.flags.assert_flags.Goals as goal

pub returns-in-Some : goal.returns-in-Some
returns-in-Some c = ap (◌+◌ 16) c.as_operand.ensures.0 ∙ sym (ap flags_of c.in-Some.is)
