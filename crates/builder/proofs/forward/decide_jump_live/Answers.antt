-- `builder::forward::decide_jump_live` meets its contract: the taken depth is op's, the rest as any emission.
-- Assumes nothing.
use Rattle.std.proofs.lemmas.Result.{err_from_is_err_and}
use Rattle.builder.specs.Plan.{Decision}
use Rattle.builder.proofs.JumpPlans.{ahead_live}
use Rattle.builder.proofs.Plans.{lives_sound}
use Rattle.op.specs.declared.Table.TheVariants.{Locations, Marks}
use Rattle.code.specs.Tables.{mark_cells, room}
use Rattle.builder.specs.Locations.{row_fits}
use Rattle.builder.specs.Plan.{emitting_of}
use Rattle.builder.specs.Forward.{jump_asked, jump_plan_of}
use Rattle.builder.specs.Inner.{also_row}
use mathlib.Core.Path.{◌∙◌, ap, sym}
use Rattle.builder.proofs.forward.decide_jump_live.Goals as goal

pub decide_bytes-bytes-requires : goal.decide_bytes-bytes-requires
decide_bytes-bytes-requires c =
    let a = c.args in
    let s = lives_sound (jump_asked a.core a.location a.opcode a.cl a.ll a.ml) c.requires in
    (s.code, s.limit)

pub returns-in_err-t : goal.returns-in_err-t
unfolding jump_plan_of emitting_of
returns-in_err-t c = let p = err_from_is_err_and c.from_residual.result c.from_residual.ensures.1 in rw (p.1, p.2) (simp (c.requires, sym c.taken.ensures ∙ c.in_err-t.was))

pub returns : goal.returns
returns c =
    let a = c.args in
    c.also_row.ensures
    ∙ ap (λ (p : Decision). also_row p (room mark_cells a.core.marks a.ml) Marks)
    (c.also_location-located.ensures
    ∙ ap (λ (p : Decision). also_row p (row_fits a.location a.core.locations a.ll) Locations)
    c.decide_bytes-bytes.ensures)
    ∙ sym (ahead_live a.core a.location a.opcode a.cl a.ll a.ml a.d _ c.requires
    (sym c.taken.ensures ∙ c.in_ok-t.was))
