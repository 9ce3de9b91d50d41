-- `readback::placing::offset` meets its contract: by what the column says as a number.
-- Assumes nothing.
use Rattle.words.specs.declared.NumberError.TheVariants.{Large, Not}
use Rattle.std.proofs.Common.{◌≡◌}
use Rattle.std.specs.Prelude.{Err}
use mathlib.Core.Path.{sym, ap, ◌∙◌}
use native.Mathlib.Omega.{arith}
use borrow.Author.Tests.{eq-eqb, ne_eqb}
use Rattle.readback.specs.Lined.{met_if}
use Rattle.readback.proofs.Places.{offset_is, offset_large, offset_not}
use Rattle.readback.proofs.placing.offset.Goals as goal

pub returns-then-v-at : goal.returns-then-v-at
returns-then-v-at c =
    let t = c.args.t.now in
    let v = c.in-Ok.v in
    ap met_if (sym (ne_eqb v c.args.at c.if-v-at.true))
    ∙ offset_is c.args.at t (omega (arith, c.ranges.at)) v
    (sym c.natural-n.ensures ∙ c.in-Ok.is)

pub returns-else-v-at : goal.returns-else-v-at
returns-else-v-at c =
    let t = c.args.t.now in
    let v = c.in-Ok.v in
    ap met_if (sym (eq-eqb v c.args.at c.if-v-at.false))
    ∙ offset_is c.args.at t (omega (arith, c.ranges.at)) v
    (sym c.natural-n.ensures ∙ c.in-Ok.is)

pub returns-in-Err-Large : goal.returns-in-Err-Large
returns-in-Err-Large c =
    let e : c.natural-n.result ≡ Err c.in-Err-Large.field-0 = c.in-Err-Large.is in
    let f : c.in-Err-Large.field-0 ≡ Large = rw c.in-Err-Large.is at c.in-Err-Large.field-0-is in
    offset_large c.args.at c.args.t.now (omega (arith, c.ranges.at))
    (sym c.natural-n.ensures ∙ e ∙ ap Err f)

pub returns-in-Err-Not : goal.returns-in-Err-Not
returns-in-Err-Not c =
    let e : c.natural-n.result ≡ Err c.in-Err-Not.field-0 = c.in-Err-Not.is in
    let f : c.in-Err-Not.field-0 ≡ Not = rw c.in-Err-Not.is at c.in-Err-Not.field-0-is in
    offset_not c.args.at c.args.t.now (omega (arith, c.ranges.at))
    (sym c.natural-n.ensures ∙ e ∙ ap Err f)
