-- `op::opcodes::all` meets its contract: the constants are the numbers of the table's rows, by computation.
-- Assumes nothing.
use mathlib.Core.Path.{refl}
use Rattle.op.specs.Opcodes.{opcode_numbers, table}
use Rattle.op.proofs.opcodes.all.Goals as goal

pub returns : goal.returns
unfolding opcode_numbers table
returns c = refl
