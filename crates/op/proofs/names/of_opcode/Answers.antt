-- `op::names::of_opcode` meets its contract: its tests are those of the part between two starts.
-- Assumes nothing.
use lib.ListN.{get_or}
use native.Mathlib.Nat.{le_of_lt}
use Rattle.op.specs.Names.{name_by}
use Rattle.op.proofs.Named.{past_starts, no_part, empty_part, whole_part}
use Rattle.op.proofs.names.of_opcode.Goals as goal

pub returns-then-starts-i : goal.returns-then-starts-i
returns-then-starts-i c = past_starts _ c.args.starts.now c.args.opcode c.if-starts-i.true

pub returns-then-text-e : goal.returns-then-text-e
unfolding name_by
returns-then-text-e c =
    let a = c.args in
    no_part a.text.now (get_or a.starts.now a.opcode 0) _ c.if-text-e.true

pub returns-then-e-a : goal.returns-then-e-a
unfolding name_by
returns-then-e-a c =
    let a = c.args in
    empty_part a.text.now (get_or a.starts.now a.opcode 0) _ c.if-text-e.false
    (le_of_lt c.if-e-a.true)

pub returns : goal.returns
unfolding name_by
returns c =
    let a = c.args in
    whole_part a.text.now (get_or a.starts.now a.opcode 0) _ c.if-text-e.false
