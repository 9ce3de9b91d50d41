-- `op::effects::taken_effect` meets its contract: at each jump's number the definition computes to the arm's effect.
-- Assumes nothing.
use borrow.Author.Tests.{ne_eqb, lt-leb, le-leb}
use Rattle.op.specs.Opcodes.{known}
use Rattle.op.specs.Effects.{taken_of}
use Rattle.base.proofs.Keys.{at}
use Rattle.op.proofs.effects.taken_effect.Goals as goal

pub returns-then-opcode-gt-LAST : goal.returns-then-opcode-gt-LAST
unfolding known taken_of
returns-then-opcode-gt-LAST c = simp (lt-leb _ _ c.if-opcode-gt-LAST.true)

pub returns-in-88 : goal.returns-in-88
unfolding known taken_of
returns-in-88 c = at taken_of c.in-88.is

pub returns-in-89 : goal.returns-in-89
unfolding known taken_of
returns-in-89 c = at taken_of c.in-89.is

pub returns-in-90 : goal.returns-in-90
unfolding known taken_of
returns-in-90 c = at taken_of c.in-90.is

pub returns-in-91 : goal.returns-in-91
unfolding known taken_of
returns-in-91 c = at taken_of c.in-91.is

pub returns-in-92 : goal.returns-in-92
unfolding known taken_of
returns-in-92 c = at taken_of c.in-92.is

pub returns-in-94 : goal.returns-in-94
unfolding known taken_of
returns-in-94 c = at taken_of c.in-94.is

pub returns-in_default : goal.returns-in_default
unfolding known taken_of
returns-in_default c =
    let r = c.in_default.in_default-own.rest in
    simp (le-leb _ _ c.if-opcode-gt-LAST.false, ne_eqb _ _ r.1, ne_eqb _ _ r.0.1, ne_eqb _ _ r.0.0.1, ne_eqb _ _ r.0.0.0.1, ne_eqb _ _ r.0.0.0.0.1, ne_eqb _ _ r.0.0.0.0.0.1)
