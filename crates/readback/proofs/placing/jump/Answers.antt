-- `readback::placing::jump` meets its contract: the goal is within 64 bits, so a number that is not is another.
-- Assumes nothing.
use mathlib.Core.Path.{sym}
use Prim.Native.Nat.{◌+◌}
use native.Mathlib.Omega.{arith}
use lib.IntN.{pos, ◌+ℤ◌}
use Rattle.text.specs.Reading.{read_whole}
use Rattle.readback.specs.Inner.{whole}
use Rattle.readback.proofs.Places.{goal_small, met_reached}
use Rattle.readback.proofs.placing.jump.Goals as goal

pub returns : goal.returns
returns c =
    let a = c.args in
    let small = goal_small a.at a.n a.minus c.requires (omega (arith, c.ranges.n)) in
    rw (sym (met_reached (read_whole a.t.now) (pos (a.at + 3) +ℤ whole a.minus a.n) small))
    (rw (sym c.whole.ensures, sym c.goal_of.ensures) c.meets.ensures)
