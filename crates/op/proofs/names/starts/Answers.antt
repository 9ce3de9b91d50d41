-- `op::names::starts` meets its contract: the starts are the lengths of the table's names added up, by computation.
-- Assumes nothing.
use mathlib.Core.Path.{refl}
use Rattle.op.specs.Opcodes.{table}
use Rattle.op.specs.Names.{name_starts}
use Rattle.op.proofs.names.starts.Goals as goal

pub returns : goal.returns
unfolding name_starts table
returns c = refl
