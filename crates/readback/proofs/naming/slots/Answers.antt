-- `readback::naming::slots` meets its contract: with the opcodes that are still to be placed the table is the definition's.
-- The measure is how many those are.
-- Assumes nothing.
use mathlib.Core.Path.{◌≡◌, sym, ap, ◌∙◌}
use Prim.Native.Nat.{◌<◌}
use native.Mathlib.Omega.{arith}
use native.Mathlib.Numerals.{add-one}
use lib.ListN.{length}
use Rattle.op.specs.Names.{name_of}
use Rattle.op.specs.Opcodes.{table}
use Rattle.op.proofs.Listed.{rows}
use Rattle.readback.specs.Inner.{slot_of}
use Rattle.readback.proofs.Slots.{slot_small, placed_none, placed_on, placed_all}
use Rattle.readback.proofs.naming.slots.Goals as goal

pub loop-opcode-init : goal.loop-opcode-init
loop-opcode-init c = placed_none

pub bounds-slots-at : goal.bounds-slots-at
bounds-slots-at c = omega (arith, c.slot-at.ensures, slot_small c.of.result.now)

pub loop-opcode-preserved : goal.loop-opcode-preserved
loop-opcode-preserved c =
    let k = c.loop-opcode.opcode in
    let slots = c.loop-opcode.slots in
    let known : k < length table = omega (arith, rows, c.loop-opcode-test.true) in
    let at : c.slot-at.result ≡ slot_of (name_of k) =
    c.slot-at.ensures ∙ ap slot_of c.of.ensures in
    rw (add-one k, at) (sym (placed_on k slots known) ∙ c.loop-opcode.invariant)

pub returns : goal.returns
returns c =
    let k = c.loop-opcode.opcode in
    let slots = c.loop-opcode.slots in
    sym (placed_all k slots (omega (arith, rows, c.loop-opcode-test.false))) ∙ c.loop-opcode.invariant
