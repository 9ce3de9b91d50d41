-- `op::names::text` meets its contract: the text is the table's names one behind the other, by computation.
-- Assumes nothing.
use mathlib.Core.Path.{refl}
use Rattle.op.specs.Opcodes.{table}
use Rattle.op.specs.Names.{name_text}
use Rattle.op.proofs.names.text.Goals as goal

pub returns : goal.returns
unfolding name_text table
returns c = refl
