use mathlib.Core.Path.{◌≡◌}
use Prim.Native.Nat.{◌-◌}
use lib.ListN.{length}
use Rattle.readback.proofs.Turns.{Turned}
use Rattle.readback.proofs.lines.fill.Given as goal

abbrev pub invariant-loop-from : goal.invariant-loop-from
invariant-loop-from l = Turned l.body (length l.initial.out) l.out l.from l.number l.at × (length l.cells ≡ length l.initial.cells)

abbrev pub decreases-loop-from : goal.decreases-loop-from
decreases-loop-from l = length l.body - l.from
