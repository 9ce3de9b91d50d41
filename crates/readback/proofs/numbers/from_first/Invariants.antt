use mathlib.Core.Path.{◌≡◌}
use Prim.Native.Nat.{◌-◌}
use lib.ListN.{length}
use Rattle.readback.specs.Inner.{Column}
use Rattle.readback.proofs.numbers.from_first.Given as goal

abbrev pub invariant-loop-at : goal.invariant-loop-at
invariant-loop-at l = Column l.c l.at l.n l.minus l.cells × (length l.cells ≡ length l.initial.cells)

abbrev pub decreases-loop-at : goal.decreases-loop-at
decreases-loop-at l = length l.c - l.at
