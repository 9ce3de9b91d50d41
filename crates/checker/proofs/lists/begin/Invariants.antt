use Rattle.checker.proofs.Draining.{Beginning}
use Rattle.checker.proofs.lists.begin.Given as goal

abbrev pub invariant-loop-k : goal.invariant-loop-k
invariant-loop-k l = Beginning l.starts l.initial.cells l.cells l.initial.work l.work l.k l.top
