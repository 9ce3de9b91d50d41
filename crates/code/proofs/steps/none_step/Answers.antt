-- `code::steps::none_step` meets its contract: a byte is there, and that is all of it.
-- Assumes nothing.
use mathlib.Core.Path.{refl}
use native.Mathlib.Omega.{arith}
use Rattle.op.specs.Shapes.{size_of}
use Rattle.code.specs.Decode.{operand_in}
use Rattle.code.proofs.Decoding.{step_instr}
use Rattle.code.proofs.steps.none_step.Goals as goal

pub returns : goal.returns
unfolding size_of operand_in
returns c = step_instr c.args.at _ c.args.bytes.now 1 refl _ refl (omega (arith, c.requires))
