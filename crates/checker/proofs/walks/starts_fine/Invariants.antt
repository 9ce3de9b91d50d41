use Prim.Native.Nat.{ℕ, ◌<◌}
use Rattle.checker.proofs.Walking.{Good}
use Rattle.checker.proofs.walks.starts_fine.Given as goal

abbrev pub invariant-loop-k : goal.invariant-loop-k
invariant-loop-k l = (j : ℕ) → j < l.k → Good l.work l.starts j
