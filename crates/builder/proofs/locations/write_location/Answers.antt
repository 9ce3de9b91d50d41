-- `builder::locations::write_location` meets its contract: a row is free where a location is set, and the lent part
-- comes back with it.
-- Assumes nothing.
use Prim.Native.Nat.{◌*◌, ◌+◌, ◌/◌, ◌<◌, ◌≤◌}
use Rattle.builder.proofs.Emitted.{set_arm}
use Rattle.code.proofs.Putting.{length_lent, put_lent}
use Rattle.code.specs.Locations.{location_at, location_numbers}
use Rattle.code.specs.Tables.{location_cells}
use borrow.Author.Tests.{ltb-true}
use lib.ListN.{length}
use native.Mathlib.Omega.{arith}
use Rattle.builder.proofs.locations.write_location.Goals as goal

pub overflow_mul-base : goal.overflow_mul-base
overflow_mul-base c =
    let free : c.args.rows
    < length c.args.locations.now / location_cells = ltb-true _ _ (rw c.in-Some.is at c.requires.1) in
    omega (arith, free)

pub offset_bounds-locations-base : goal.offset_bounds-locations-base
offset_bounds-locations-base c =
    let free : c.args.rows
    < length c.args.locations.now / location_cells = ltb-true _ _ (rw c.in-Some.is at c.requires.1) in
    omega (arith, free)

pub slice_bounds-write_row-count : goal.slice_bounds-write_row-count
slice_bounds-write_row-count c =
    let free : c.args.rows
    < length c.args.locations.now / location_cells = ltb-true _ _ (rw c.in-Some.is at c.requires.1) in
    omega (arith, free)

pub slice_bounds-write_row-start : goal.slice_bounds-write_row-start
slice_bounds-write_row-start c =
    let free : c.args.rows
    < length c.args.locations.now / location_cells = ltb-true _ _ (rw c.in-Some.is at c.requires.1) in
    omega (arith, free)

pub write_row-requires : goal.write_row-requires
write_row-requires c =
    let free : c.args.rows
    < length c.args.locations.now / location_cells = ltb-true _ _ (rw c.in-Some.is at c.requires.1) in
    rw length_lent (omega (arith, free))

pub overflow_add-result : goal.overflow_add-result
overflow_add-result c =
    let free : c.args.rows
    < length c.args.locations.now / location_cells = ltb-true _ _ (rw c.in-Some.is at c.requires.1) in
    omega (arith, free)

pub returns : goal.returns
returns c =
    let free : c.args.rows
    < length c.args.locations.now / location_cells = ltb-true _ _ (rw c.in-Some.is at c.requires.1) in
    let a = c.args in
    let row = location_numbers (location_at a.at c.in-Some.set.range c.in-Some.set.focus) in
    let h : a.rows * location_cells + length row ≤ length a.locations.now = omega (arith, free) in
    set_arm a.location c.in-Some.set.range c.in-Some.set.focus a.rows a.at a.locations.now _ c.in-Some.is
    (rw c.write_row.ensures (put_lent (a.rows * location_cells) row a.locations.now h))
