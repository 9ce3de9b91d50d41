use Prim.Native.Nat.{◌-◌, ◌≤◌}
use lib.ListN.{length}
use Rattle.op.specs.Opcodes.{last_opcode}
use Rattle.checker.specs.Inner.{InHand}
use Rattle.checker.proofs.lists.follow.Given as goal

abbrev pub invariant-places : goal.invariant-places
invariant-places l = (l.fn.taken ≤ l.taken) × InHand last_opcode l.code l.initial.cells l.cells l.work l.top l.at l.taken

abbrev pub decreases-places : goal.decreases-places
decreases-places l = length l.cells - l.taken
