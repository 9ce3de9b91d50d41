-- `op::flags::decode_assert_flags` meets its contract: 0 compares nothing, and a number that `try_from` refuses is none.
-- Assumes nothing.
use mathlib.Core.Path.{refl}
use native.Mathlib.Omega.{arith}
use Rattle.op.proofs.Flagged.{decoded_is, decoded_not, decoded_low}
use Rattle.op.specs.Flags.{decoded_flags}
use Rattle.op.proofs.flags.decode_assert_flags.Goals as goal

pub returns-then-flags-eq0 : goal.returns-then-flags-eq0
unfolding decoded_flags
returns-then-flags-eq0 c = rw c.if-flags-eq0.true refl

pub returns-in_err-number : goal.returns-in_err-number
returns-in_err-number c = rw c.from_residual.ensures (decoded_low _ (omega (arith, c.in_err-number.ensures)) c.if-flags-eq0.false)

pub returns-in_default : goal.returns-in_default
returns-in_default c =
    let n = c.in_ok-number.ensures in
    decoded_not _ c.in_ok-number.number (omega (arith, n)) c.in_default.ensures.1

pub returns : goal.returns
returns c =
    let n = c.in_ok-number.ensures in
    decoded_is _ c.in_ok-number.number c.in-Ok.operator (omega (arith, n)) c.in-Ok.ensures
