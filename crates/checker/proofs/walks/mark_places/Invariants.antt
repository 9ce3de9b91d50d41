use Prim.Native.Nat.{◌-◌}
use lib.ListN.{length}
use Rattle.op.specs.Opcodes.{last_opcode}
use Rattle.checker.proofs.Walking.{Marking}
use Rattle.checker.proofs.walks.mark_places.Given as goal

abbrev pub invariant-loop-at : goal.invariant-loop-at
invariant-loop-at l = Marking last_opcode l.code l.work l.at

abbrev pub decreases-loop-at : goal.decreases-loop-at
decreases-loop-at l = length l.code - l.at
