use Prim.Native.Nat.{◌-◌}
use lib.ListN.{length}
use Rattle.op.specs.Opcodes.{last_opcode}
use Rattle.checker.specs.Inner.{Draining}
use Rattle.checker.proofs.lists.drain.Given as goal

abbrev pub invariant-loop-top : goal.invariant-loop-top
invariant-loop-top l = Draining last_opcode l.code l.initial.cells l.cells l.work l.top l.taken

abbrev pub decreases-loop-top : goal.decreases-loop-top
decreases-loop-top l = length l.cells - l.taken
