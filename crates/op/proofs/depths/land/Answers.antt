-- `op::depths::land` meets its contract: its tests are the definition's.
-- Assumes nothing.
use Rattle.std.specs.Prelude.{Ok}
use Rattle.std.proofs.lemmas.Result.{err_from_is_err_and}
use mathlib.Core.Path.{refl, ap}
use native.Mathlib.Omega.{arith}
use borrow.Author.Tests.{lt-leb, le-leb}
use Rattle.op.specs.Depths.{deepest, landing}
use Prim.Native.Nat.{◌+◌, ◌-◌}
use Rattle.op.proofs.depths.land.Goals as goal

pub returns-in_err-up : goal.returns-in_err-up
unfolding landing
returns-in_err-up c =
    let p = err_from_is_err_and c.from_residual.result c.from_residual.ensures.1 in
    rw (p.1, p.2) (rw c.in_err-up.was refl)

pub returns-in_default : goal.returns-in_default
unfolding landing
returns-in_default c =
    let e = c.in_ok-up.field-0 in
    rw (c.in_ok-up.was, lt-leb e.down (c.args.depth + e.up) (omega (arith, c.in_default.ensures))) refl

pub returns-in_default-try_from : goal.returns-in_default-try_from
unfolding landing
returns-in_default-try_from c =
    let e = c.in_ok-up.field-0 in
    let b = c.in-Some.ensures in
    rw (
      c.in_ok-up.was,
      le-leb e.down (c.args.depth + e.up) (omega (arith, b)),
      lt-leb (c.args.depth + e.up - e.down) deepest (omega (arith, b, c.in_default-try_from.ensures)),
    )
    refl

pub returns : goal.returns
unfolding landing
returns c =
    let e = c.in_ok-up.field-0 in
    let b = c.in-Some.ensures in
    let n = c.in-Ok.ensures in
    rw (
      c.in_ok-up.was,
      le-leb e.down (c.args.depth + e.up) (omega (arith, b)),
      le-leb (c.args.depth + e.up - e.down) deepest (omega (arith, b, n)),
    )
    (ap Ok (omega (arith, b, n)))
