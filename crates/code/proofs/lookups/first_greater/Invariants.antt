use Prim.Native.Nat.{◌-◌}
use Rattle.code.specs.Locations.{location_count}
use Rattle.code.specs.Lookups.{greater}
use Rattle.code.proofs.First.{Passed}
use Rattle.code.proofs.lookups.first_greater.Given as goal

abbrev pub invariant-loop-row : goal.invariant-loop-row
invariant-loop-row l = Passed (greater l.rows l.offset) (location_count l.rows) l.row

abbrev pub decreases-loop-row : goal.decreases-loop-row
decreases-loop-row l = l.count - l.row
