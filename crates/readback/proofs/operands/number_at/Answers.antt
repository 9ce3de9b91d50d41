-- `readback::operands::number_at` meets its contract: the number, or none, by what is there.
-- Assumes nothing.
use mathlib.Core.Path.{◌≡◌, sym}
use mathlib.Core.Bool.{true}
use native.Mathlib.Omega.{arith}
use mir.ValLaws.{to_z-of_z}
use mir.Syntax.{w32}
use lib.ListN.{length}
use borrow.Author.Tests.{ltb-true, ltb-false}
use Rattle.base.proofs.Bools.{clash}
use Rattle.readback.specs.Inner.{sign_first}
use Rattle.readback.proofs.Speaking.{length_signs, none_past, number_there}
use Rattle.readback.proofs.operands.number_at.Goals as goal
use Rattle.readback.proofs.operands.number_at.Goals.{else-minus-via-then-minus+else-i-eq0, else-minus-via-else-minus}

pub returns-in_err-get : goal.returns-in_err-get
returns-in_err-get c =
    let ms = c.args.cells.now in
    rw c.from_residual.ensures
    (sym (none_past (sign_first c.args.minus ms) c.args.i
    (omega (arith, ltb-false c.args.i (length ms) (sym c.in_err-get.ensures.lookup.0), length_signs c.args.minus ms))))

pub returns : goal.returns
returns c =
    let ms = c.args.cells.now in
    let unsigned : c.args.minus ≡ true → c.args.i ≡ 0 → ⊥ =
    elim c.else-minus.branch [ else-minus-via-then-minus+else-i-eq0 w ↦ (λ m z. w.if-i-eq0.false z) | else-minus-via-else-minus w ↦ (λ m z. let n = w.if-minus.false in clash cc) ] in
    rw (to_z-of_z w32 c.from-n.result (record { sfits = c.from-n.type_inv }), c.from-n.ensures, c.in_ok-get.ensures.lookup.1)
    (number_there c.args.minus ms c.args.i _ (ltb-true c.args.i (length ms) (sym c.in_ok-get.ensures.lookup.0)) unsigned)
