-- `builder::Builder::emit_store_local` meets its contract: its test is the definition's.
-- Assumes nothing.
use borrow.Author.Tests.{le-leb, lt-leb}
use Rattle.builder.proofs.Builder.emit_store_local.Goals as goal

pub returns-then-slot-le255 : goal.returns-then-slot-le255
returns-then-slot-le255 c = simp (le-leb _ _ c.if-slot-le255.true) c.emit_u8.ensures

pub returns : goal.returns
returns c = simp (lt-leb _ _ c.if-slot-le255.false) c.emit_u16.ensures
