-- `checker::solving::solve` meets its contract: what follows from the starts, in cells without depths, is the solution.
-- Assumes nothing.
use mathlib.Core.Path.{◌≡◌}
use Prim.Native.Nat.{suc}
use native.Mathlib.Omega.{arith}
use lib.ListN.{length}
use Rattle.checker.proofs.Solutions.{solution}
use Rattle.checker.proofs.solving.solve.Goals as goal

pub returns-in-Ok : goal.returns-in-Ok
returns-in-Ok c =
    let size : length c.reach.new.cells ≡ suc (length c.args.code.now) = omega (arith, c.requires.0.cells) in (
      c.requires.1,
      c.requires.3,
      solution c.requires.1 (c.reach.ensures.on _ c.in-Ok.is) size c.before_last.ensures c.greatest.ensures,
    )
