-- `builder::Builder::emit_name_op` meets its contract: the helper's promise, at the name's word.
-- Assumes nothing.
use Rattle.builder.proofs.Builder.emit_name_op.Goals as goal

pub returns : goal.returns
returns c = rw c.name_word-word.ensures at c.emit_with_operand.ensures
