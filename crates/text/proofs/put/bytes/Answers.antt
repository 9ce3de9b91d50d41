-- `text::put::bytes` meets its contract: its test is that of what fits.
-- Assumes nothing.
use native.Mathlib.Omega.{arith}
use Rattle.text.proofs.Putting.{places, refuses}
use Rattle.text.proofs.put.bytes.Goals as goal

pub returns-then-src-room : goal.returns-then-src-room
returns-then-src-room c = places (omega (arith, c.if-src-room.true, c.room.ensures)) c.copy.ensures

pub returns : goal.returns
returns c =
    let a = c.args in
    refuses a.out.now a.at a.src.now (omega (arith, c.if-src-room.false, c.room.ensures))
