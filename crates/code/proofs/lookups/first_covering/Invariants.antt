use Prim.Native.Nat.{◌-◌}
use Rattle.code.specs.Tables.{exception_cells}
use Rattle.code.specs.Lookups.{covering}
use Rattle.code.specs.Rows.{row_count}
use Rattle.code.proofs.First.{Passed}
use Rattle.code.proofs.lookups.first_covering.Given as goal

abbrev pub invariant-loop-row : goal.invariant-loop-row
invariant-loop-row l = Passed (covering l.rows l.offset) (row_count exception_cells l.rows) l.row

abbrev pub decreases-loop-row : goal.decreases-loop-row
decreases-loop-row l = l.count - l.row
