-- `api::tf_opcode_name` meets its contract: what `of` answers is the name, and `copy_from_slice` writes it.
-- Assumes nothing.
use mathlib.Core.Path.{◌∙◌}
use Rattle.api.proofs.Naming.{name_full, name_written}
use Rattle.api.proofs.tf_opcode_name.Goals as goal

pub returns-then-out-name : goal.returns-then-out-name
returns-then-out-name c =
    let n = name_full c.args.opcode _ c.args.out.now c.if-opcode-gt-LAST.false c.of-name.ensures c.if-out-name.true in
    (c.refused-then-out-name.ensures ∙ n.0, n.1)

pub returns : goal.returns
returns c =
    let n = name_written c.args.opcode _ c.args.out.now c.if-opcode-gt-LAST.false c.of-name.ensures c.if-out-name.false in
    (n.0, rw c.copy_from_slice.ensures.after n.1)
