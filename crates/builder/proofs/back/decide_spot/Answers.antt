-- `builder::back::decide_spot` meets its contract: an arm for each variant, and the line's tests.
-- Assumes nothing.
use Rattle.builder.specs.Plan.{Decision}
use Rattle.builder.proofs.JumpPlans.{back_live, near_true, same_jump}
use Rattle.op.specs.declared.Table.TheVariants.{Locations}
use Rattle.code.specs.Bytes.{signed}
use borrow.Author.Tests.{eq-eqb, ne_eqb}
use mathlib.Core.Path.{◌∙◌, ap, refl, sym}
use native.Mathlib.Omega.{arith}
use mir.Syntax.{w16}
use mir.Facts.{to_z-of_z}
use Rattle.builder.specs.Locations.{row_fits}
use Rattle.builder.specs.Plan.{emitting_of}
use Rattle.builder.specs.Inner.{also_row}
use Rattle.builder.proofs.back.decide_spot.Goals as goal

pub returns-then-e-depth : goal.returns-then-e-depth
unfolding emitting_of
returns-then-e-depth c row ml lives takes = rw (lives, takes, c.in-Target.is, ne_eqb _ _ c.if-e-depth.true) refl

pub returns-then-not-is_near : goal.returns-then-not-is_near
unfolding emitting_of
returns-then-not-is_near c row ml lives takes =
    rw (
      lives,
      takes,
      c.in-Target.is,
      eq-eqb _ _ c.if-e-depth.false,
      sym c.is_near.ensures ∙ c.if-not-is_near.true,
    ) refl

pub bits_of-word-requires : goal.bits_of-word-requires
bits_of-word-requires c =
    let h = near_true _ _ (sym c.is_near.ensures ∙ c.if-not-is_near.false) in
    (omega (arith, h), omega arith)

pub returns-in-Absent : goal.returns-in-Absent
unfolding emitting_of
returns-in-Absent c row ml lives takes = rw (lives, takes, c.in-Absent.is) refl

pub returns-in-Open : goal.returns-in-Open
unfolding emitting_of
returns-in-Open c row ml lives takes = rw (lives, takes, c.in-Open.is) refl

pub returns-in-Patched : goal.returns-in-Patched
unfolding emitting_of
returns-in-Patched c row ml lives takes = rw (lives, takes, c.in-Patched.is) refl

pub returns-else-not-is_near : goal.returns-else-not-is_near
returns-else-not-is_near c row ml lives takes =
    let a = c.args in
    c.also_location.ensures
    ∙ ap (λ (p : Decision). also_row p (row_fits a.location a.core.locations a.ll) Locations)
    (c.decide_bytes-decision.ensures
    ∙ same_jump a.core.code a.d a.opcode a.cl _ _ _
    (to_z-of_z {w = w16} (record { sfits = c.to_i16.type_inv }) ∙ c.to_i16.ensures
    ∙ ap (signed 65536) c.bits_of-word.ensures) c.bits_of-word.ensures)
    ∙ sym (back_live a.core a.location a.opcode row a.cl a.ll ml a.d a.e _ _ a.mark lives takes
    c.in-Target.is (eq-eqb _ _ c.if-e-depth.false)
    (sym c.is_near.ensures ∙ c.if-not-is_near.false))
