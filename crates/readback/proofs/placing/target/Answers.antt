-- `readback::placing::target` meets its contract: by the operand's displacement.
-- Assumes nothing.
use Rattle.readback.specs.declared.placing.Aim.TheVariants as A
use Rattle.std.proofs.Common.{◌≡◌, ap, Some}
use mathlib.Core.Path.{subst, sym, ◌∙◌}
use Rattle.readback.specs.Lined.{Aims}
use Rattle.readback.proofs.Places.{reached_jump, reached_dash, reached_other}
use Rattle.readback.proofs.placing.target.Goals as goal

pub returns-then-is_dash : goal.returns-then-is_dash
returns-then-is_dash c =
    let a = c.args in
    let still = subst (Aims a.operand) c.in-None.is c.aim_of-way.ensures in
    rw (still a.at) (reached_dash a.t.now (sym c.is_dash.ensures ∙ c.if-is_dash.true))

pub returns-in-Some-On : goal.returns-in-Some-On
returns-in-Some-On c =
    let a = c.args in
    let e : c.aim_of-way.result ≡ Some c.in-Some-On.field-0 = c.in-Some-On.is in
    let f : c.in-Some-On.field-0 ≡ A.On c.in-Some-On.n = rw c.in-Some-On.is at c.in-Some-On.field-0-is in
    let is = subst (Aims a.operand) (e ∙ ap Some f) c.aim_of-way.ensures in
    rw is (c.jump.ensures ∙ reached_jump a.t.now _)

pub returns-in-Some-Back : goal.returns-in-Some-Back
returns-in-Some-Back c =
    let a = c.args in
    let e : c.aim_of-way.result ≡ Some c.in-Some-Back.field-0 = c.in-Some-Back.is in
    let f : c.in-Some-Back.field-0 ≡ A.Back c.in-Some-Back.n = rw c.in-Some-Back.is at c.in-Some-Back.field-0-is in
    let is = subst (Aims a.operand) (e ∙ ap Some f) c.aim_of-way.ensures in
    rw is (c.jump-in-Some-Back.ensures ∙ reached_jump a.t.now _)

pub returns-else-is_dash : goal.returns-else-is_dash
returns-else-is_dash c =
    let a = c.args in
    let still = subst (Aims a.operand) c.in-None.is c.aim_of-way.ensures in
    rw (still a.at) (reached_other a.t.now (sym c.is_dash.ensures ∙ c.if-is_dash.false))
