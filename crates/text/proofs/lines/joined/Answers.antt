-- `text::lines::joined` meets its contract: its tests take the three lengths from the room, one after the other.
-- Assumes nothing.
use mathlib.Core.List.{◌++◌}
use Prim.Native.Nat.{◌+◌}
use mathlib.Core.Path.{◌≡◌}
use native.Mathlib.Omega.{arith}
use lib.ListN.{length, length-append}
use Rattle.text.proofs.Putting.{begin, next, last, places, refuses}
use Rattle.text.proofs.lines.joined.Goals as goal

pub returns-then-room-front : goal.returns-then-room-front
returns-then-room-front c =
    let size : length (c.args.front.now ++ (c.args.name.now ++ c.args.back.now)) ≡ length c.args.front.now +
    (length c.args.name.now + length c.args.back.now) = simp length-append in
    refuses c.args.out.now c.args.to (c.args.front.now ++ (c.args.name.now ++ c.args.back.now))
    (omega (arith, size, c.room-room.ensures, c.if-room-front.true))

pub returns-then-room-front-2 : goal.returns-then-room-front-2
returns-then-room-front-2 c =
    let size : length (c.args.front.now ++ (c.args.name.now ++ c.args.back.now)) ≡ length c.args.front.now +
    (length c.args.name.now + length c.args.back.now) = simp length-append in
    refuses c.args.out.now c.args.to (c.args.front.now ++ (c.args.name.now ++ c.args.back.now))
    (omega (arith, size, c.room-room.ensures, c.if-room-front.false, c.if-room-front-2.true))

pub returns-then-room-front-3 : goal.returns-then-room-front-3
returns-then-room-front-3 c =
    let size : length (c.args.front.now ++ (c.args.name.now ++ c.args.back.now)) ≡ length c.args.front.now +
    (length c.args.name.now + length c.args.back.now) = simp length-append in
    refuses c.args.out.now c.args.to (c.args.front.now ++ (c.args.name.now ++ c.args.back.now))
    (omega (arith, size, c.room-room.ensures, c.if-room-front.false, c.if-room-front-2.false, c.if-room-front-3.true))

pub returns : goal.returns
returns c =
    let size : length (c.args.front.now ++ (c.args.name.now ++ c.args.back.now)) ≡ length c.args.front.now +
    (length c.args.name.now + length c.args.back.now) = simp length-append in
    places (omega (arith, size, c.room-room.ensures, c.if-room-front.false, c.if-room-front-2.false, c.if-room-front-3.false))
    (last (next (next (begin c.args.out.now c.args.to (c.args.front.now ++ (c.args.name.now ++ c.args.back.now))) c.copy-o.ensures)
    c.copy-e.ensures) c.copy.ensures)
