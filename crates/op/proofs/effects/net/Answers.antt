-- `op::effects::net` meets its contract: the difference of two numbers that fit is the signed one.
-- Assumes nothing.
use Rattle.std.specs.Prelude.{Ok}
use mathlib.Core.Path.{◌∙◌, sym, ap, subst}
use mathlib.Core.Path.{◌∙◌, sym, ap}
use mir.Syntax.{w32}
use Rattle.op.specs.Effects.{net_of, Small}
use Rattle.op.proofs.Signs.{difference}
use Rattle.op.proofs.effects.net.Goals as goal

pub returns-in-Ok : goal.returns-in-Ok
returns-in-Ok c =
    let s = subst Small c.in-Ok.is c.requires in
    ap Ok (difference w32 c.in-Ok.field-0.up c.in-Ok.field-0.down s.0 s.1)
    ∙ sym (ap net_of c.in-Ok.is)

pub returns-in-Err : goal.returns-in-Err
returns-in-Err c = sym (ap net_of c.in-Err.is)
