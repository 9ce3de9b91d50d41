use mathlib.Core.Path.{◌≡◌}
use lib.ListN.{drop}
use Rattle.op.specs.Opcodes.{table}
use Rattle.readback.specs.Inner.{placed, slot_table}
use Rattle.readback.proofs.naming.slots.Given as goal

abbrev pub invariant-loop-opcode : goal.invariant-loop-opcode
invariant-loop-opcode l = placed l.opcode (drop l.opcode table) l.slots ≡ slot_table
