-- `readback::line::store` meets its contract: a well formed instruction is refused for want of room alone.
-- Assumes nothing.
use mathlib.Core.Path.{sym, ap}
use Rattle.readback.proofs.Telling.{line_by, lays_store}
use Rattle.readback.proofs.line.store.Goals as goal

pub returns-in-Ok : goal.returns-in-Ok
returns-in-Ok c =
    let a = c.args in
    lays_store a.opcode a.operand a.names.now c.requires a.out.now _ _ c.write-written.ensures _
    (sym (ap line_by c.in-Ok.is))

pub returns-in-Err : goal.returns-in-Err
returns-in-Err c =
    let a = c.args in
    lays_store a.opcode a.operand a.names.now c.requires a.out.now _ _ c.write-written.ensures _
    (sym (ap line_by c.in-Err.is))
