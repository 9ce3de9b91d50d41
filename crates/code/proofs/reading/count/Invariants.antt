use Prim.Native.Nat.{◌-◌}
use lib.ListN.{length}
use Rattle.op.specs.Opcodes.{last_opcode}
use Rattle.code.proofs.Counted.{Counting}
use Rattle.code.proofs.reading.count.Given as goal

abbrev pub invariant-loop-found : goal.invariant-loop-found
invariant-loop-found l = Counting last_opcode l.code l.at l.n

abbrev pub decreases-loop-found : goal.decreases-loop-found
decreases-loop-found l = length l.code - l.at
