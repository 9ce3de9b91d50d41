-- `builder::back::jump_to_core` meets its contract: each plan is what the model says.
-- Assumes nothing.
use Rattle.std.proofs.lemmas.Result.{err_from_is_err_and}
use Rattle.builder.specs.Plan.{planned}
use Rattle.std.specs.Prelude.{Ok, Err, Some, None}
use Rattle.builder.proofs.JumpPlans.{jumped_to, to_goes, to_writes}
use Rattle.code.specs.Tables.{put}
use Rattle.builder.specs.declared.JumpTarget.TheVariants as T
use Rattle.code.specs.Encode.{encode}
use mathlib.Core.List.{[]}
use mathlib.Core.Path.{◌∙◌, ap, sym}
use native.Mathlib.Omega.{arith}
use mir.Syntax.{w16}
use mir.Facts.{to_z-of_z}
use lib.IntN.{ℤ}
use Rattle.op.specs.declared.Operand.TheVariants.{Offset}
use Rattle.builder.proofs.back.jump_to_core.Goals as goal

pub commit-rows-requires : goal.commit-rows-requires
commit-rows-requires c =
    let a = c.args in
    to_writes a.core a.location a.opcode (T.Row a.row) _ _ a.marks.now _ _ _ _
    (to_z-of_z {w = w16} (record { sfits = c.to_i16.type_inv }) ∙ c.to_i16.ensures)
    (sym c.decide_to.ensures ∙ c.in_ok-decision.was ∙ ap Ok c.in-Some.is)

pub grown-requires : goal.grown-requires
grown-requires c =
    let a = c.args in
    let g = to_goes a.core a.location a.opcode (T.Row a.row) _ _ a.marks.now _ _ _
    (sym c.decide_to.ensures ∙ c.in_ok-decision.was ∙ ap Ok c.in-Some.is) in
    omega (arith, g.goes.limit, g.sound.limit)

pub returns-in_err-decision : goal.returns-in_err-decision
returns-in_err-decision c =
    let a = c.args in
    let p = err_from_is_err_and c.from_residual.result c.from_residual.ensures.1 in rw (p.1, p.2)
    (jumped_to a.core a.location a.opcode (T.Row a.row) a.code.now a.locations.now a.marks.now (Err _)
    (sym c.decide_to.ensures ∙ c.in_err-decision.was))

pub returns-in_default : goal.returns-in_default
returns-in_default c =
    let a = c.args in jumped_to a.core a.location a.opcode (T.Row a.row) a.code.now
    a.locations.now a.marks.now (Ok None) (sym c.decide_to.ensures ∙ c.in_ok-decision.was ∙ ap Ok c.in_default.is)

pub returns : goal.returns
returns c =
    let a = c.args in
    let w = c.commit-rows.ensures in
    let e = w.bytes ∙ ap (λ (z : ℤ). put a.core.code (encode a.opcode (Offset z) []) a.code.now)
    (to_z-of_z {w = w16} (record { sfits = c.to_i16.type_inv }) ∙ c.to_i16.ensures) in
    rw (c.grown.ensures, w.count, e, w.rows)
    (jumped_to a.core a.location a.opcode (T.Row a.row) a.code.now a.locations.now a.marks.now
    (Ok (Some (planned _ _ _))) (sym c.decide_to.ensures ∙ c.in_ok-decision.was ∙ ap Ok c.in-Some.is))
