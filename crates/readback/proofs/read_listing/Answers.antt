-- `readback::read_listing` meets its contract: what is stored is the lines' code, and nothing where one was refused.
-- Assumes nothing.
use mathlib.Core.Path.{◌≡◌, sym, ◌∙◌}
use mathlib.Core.Bool.{true}
use mathlib.Core.List.{◌++◌}
use Prim.Native.Nat.{◌-◌, ◌≤◌}
use native.Mathlib.Omega.{arith}
use lib.ListN.{length, take, drop, length-append}
use lib.Seq.{length-take-le, take-append-le}
use Rattle.text.specs.Listing.{header}
use Rattle.text.specs.Reading.{same}
use Rattle.readback.specs.Reading.{room_of}
use Rattle.readback.proofs.Header.{long_text}
use Rattle.readback.proofs.Storing.{reads_headless, body_is, reads_fits, reads_stored}
use Rattle.readback.proofs.read_listing.Goals as goal

pub returns-then-not-headed : goal.returns-then-not-headed
returns-then-not-headed c =
    reads_headless c.args.text.now c.args.code.now
    (sym c.headed.ensures ∙ c.if-not-headed.true)

pub slice_bounds-read-count : goal.slice_bounds-read-count
slice_bounds-read-count c =
    let headed_is : same (take (length header) c.args.text.now) header ≡ true = sym c.headed.ensures ∙ c.if-not-headed.false in
    long_text c.args.text.now headed_is

pub slice_bounds-read-start : goal.slice_bounds-read-start
slice_bounds-read-start c =
    let headed_is : same (take (length header) c.args.text.now) header ≡ true = sym c.headed.ensures ∙ c.if-not-headed.false in
    long_text c.args.text.now headed_is

pub slice_bounds-read-end-2 : goal.slice_bounds-read-end-2
slice_bounds-read-end-2 c =
    let room_size : length (take c.min-room.result c.space-bytes.result) ≡ c.min-room.result = length-take-le c.min-room.result c.space-bytes.result
    (omega (arith, c.min-room.ensures, c.space-bytes.ensures)) in
    sym room_size

pub read-answer-requires : goal.read-answer-requires
read-answer-requires c =
    let room_size : length (take c.min-room.result c.space-bytes.result) ≡ c.min-room.result = length-take-le c.min-room.result c.space-bytes.result
    (omega (arith, c.min-room.ensures, c.space-bytes.ensures)) in
    omega (arith, room_size, c.min-room.ensures)

pub slice_bounds-bytes-end-2 : goal.slice_bounds-bytes-end-2
slice_bounds-bytes-end-2 c =
    let headed_is : same (take (length header) c.args.text.now) header ≡ true = sym c.headed.ensures ∙ c.if-not-headed.false in
    let room_size : length (take c.min-room.result c.space-bytes.result) ≡ c.min-room.result = length-take-le c.min-room.result c.space-bytes.result
    (omega (arith, c.min-room.ensures, c.space-bytes.ensures)) in
    let room_is : length (take c.min-room.result c.space-bytes.result) ≡ room_of (length c.args.code.now) = room_size ∙ c.min-room.ensures in
    let fits : ((c.stored-size.result ≤ length (take c.min-room.result c.space-bytes.result)) × (c.stored-size.result ≤ length c.args.code.now)) = reads_fits c.args.text.now c.args.code.now (take (length c.args.text.now - 28) (drop 28 c.args.text.now)) (take c.min-room.result c.space-bytes.result) c.read-answer.new.out
    c.read-answer.result headed_is (body_is c.args.text.now) room_is
    c.read-answer.ensures c.stored-size.result c.stored-size.ensures in
    omega (
      arith,
      fits,
      length-append c.read-answer.new.out (drop c.min-room.result c.space-bytes.result),
    )

pub slice_bounds-bytes-end-3 : goal.slice_bounds-bytes-end-3
slice_bounds-bytes-end-3 c =
    let headed_is : same (take (length header) c.args.text.now) header ≡ true = sym c.headed.ensures ∙ c.if-not-headed.false in
    let room_size : length (take c.min-room.result c.space-bytes.result) ≡ c.min-room.result = length-take-le c.min-room.result c.space-bytes.result
    (omega (arith, c.min-room.ensures, c.space-bytes.ensures)) in
    let room_is : length (take c.min-room.result c.space-bytes.result) ≡ room_of (length c.args.code.now) = room_size ∙ c.min-room.ensures in
    let fits : ((c.stored-size.result ≤ length (take c.min-room.result c.space-bytes.result)) × (c.stored-size.result ≤ length c.args.code.now)) = reads_fits c.args.text.now c.args.code.now (take (length c.args.text.now - 28) (drop 28 c.args.text.now)) (take c.min-room.result c.space-bytes.result) c.read-answer.new.out
    c.read-answer.result headed_is (body_is c.args.text.now) room_is
    c.read-answer.ensures c.stored-size.result c.stored-size.ensures in
    let left = drop c.min-room.result c.space-bytes.result in
    sym (length-take-le c.stored-size.result (c.read-answer.new.out ++ left)
    (omega (arith, fits, length-append c.read-answer.new.out left)))

pub returns : goal.returns
returns c =
    let headed_is : same (take (length header) c.args.text.now) header ≡ true = sym c.headed.ensures ∙ c.if-not-headed.false in
    let room_size : length (take c.min-room.result c.space-bytes.result) ≡ c.min-room.result = length-take-le c.min-room.result c.space-bytes.result
    (omega (arith, c.min-room.ensures, c.space-bytes.ensures)) in
    let room_is : length (take c.min-room.result c.space-bytes.result) ≡ room_of (length c.args.code.now) = room_size ∙ c.min-room.ensures in
    let fits : ((c.stored-size.result ≤ length (take c.min-room.result c.space-bytes.result)) × (c.stored-size.result ≤ length c.args.code.now)) = reads_fits c.args.text.now c.args.code.now (take (length c.args.text.now - 28) (drop 28 c.args.text.now)) (take c.min-room.result c.space-bytes.result) c.read-answer.new.out
    c.read-answer.result headed_is (body_is c.args.text.now) room_is
    c.read-answer.ensures c.stored-size.result c.stored-size.ensures in
    let n = c.stored-size.result in
    let left = drop c.min-room.result c.space-bytes.result in
    let read : take n (c.read-answer.new.out ++ left) ≡ take n c.read-answer.new.out =
    take-append-le n c.read-answer.new.out left (omega (arith, fits)) in
    reads_stored c.args.text.now c.args.code.now (take (length c.args.text.now - 28) (drop 28 c.args.text.now)) (take c.min-room.result c.space-bytes.result) c.read-answer.new.out
    c.read-answer.result headed_is (body_is c.args.text.now) room_is
    c.read-answer.ensures n c.stored-size.ensures (take n (c.read-answer.new.out ++ left)) _ _ read
    c.bytes.ensures
