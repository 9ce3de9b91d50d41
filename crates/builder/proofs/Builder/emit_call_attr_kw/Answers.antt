-- `builder::Builder::emit_call_attr_kw` meets its contract: the helper's promise, at the count's byte.
-- Assumes nothing.
use Rattle.builder.proofs.Builder.emit_call_attr_kw.Goals as goal

pub returns : goal.returns
returns c = rw c.count_byte-names.ensures at c.emit_with_names.ensures
