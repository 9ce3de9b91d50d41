-- `readback::naming::Naming::opcode` meets its contract: the name of the slot's opcode is the text, or no name is.
-- Assumes nothing.
use mathlib.Core.Path.{◌≡◌, sym, ap, ◌∙◌}
use native.Mathlib.Omega.{arith}
use lib.ListN.{length, get_or}
use Rattle.text.specs.Reading.{same}
use Rattle.readback.specs.Inner.{slot_of, slot_table}
use Rattle.readback.proofs.Slots.{slots_size, slot_small, slot_named, slot_none}
use Rattle.readback.proofs.naming.Naming.opcode.Goals as goal

pub bounds-self-slot : goal.bounds-self-slot
bounds-self-slot c = omega (arith, c.slot.ensures, slot_small c.args.t.now, ap length c.args.self.now.own, slots_size)

pub returns-then-same : goal.returns-then-same
returns-then-same c =
    let t = c.args.t.now in
    let k = get_or c.args.self.now.slots c.slot.result 0 in
    let is : get_or slot_table (slot_of t) 0 ≡ k = rw (c.args.self.now.own, c.slot.ensures) in
    slot_named t k is (ap (λ (l : _). same l t) (sym c.of.ensures) ∙ sym c.same.ensures ∙ c.if-same.true)

pub returns : goal.returns
returns c =
    let t = c.args.t.now in
    let k = get_or c.args.self.now.slots c.slot.result 0 in
    let is : get_or slot_table (slot_of t) 0 ≡ k = rw (c.args.self.now.own, c.slot.ensures) in
    slot_none t k is (ap (λ (l : _). same l t) (sym c.of.ensures) ∙ sym c.same.ensures ∙ c.if-same.false)
