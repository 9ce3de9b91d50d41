-- `builder::Builder::emit_numbered` meets its contract: 2 where there is no instruction, else what the helper promises.
-- Assumes nothing.
use Rattle.builder.proofs.ByNumber.{numbered_none, numbered_goes}
use Rattle.builder.proofs.Builder.emit_numbered.Goals as goal

pub returns-in_default : goal.returns-in_default
returns-in_default c =
    let a = c.args in
    numbered_none a.self a.call a.opcode a.a a.b a.c _ a.kwnames.now a.code.now
    a.locations.now _
    c.of_call-instruction.ensures c.count_byte-names.ensures c.in_default.is

pub returns : goal.returns
returns c =
    let a = c.args in
    numbered_goes a.self a.call a.opcode a.a a.b a.c _ a.kwnames.now a.code.now
    a.locations.now _
    c.of_call-instruction.ensures c.count_byte-names.ensures _ _ _ _
    c.in-Some.is c.emit_with_names.ensures
