-- `builder::Builder::emit_load_local` meets its contract: its tests are the definition's.
-- Assumes nothing.
use borrow.Author.Tests.{le-leb, lt-leb}
use Rattle.builder.proofs.Builder.emit_load_local.Goals as goal

pub returns-then-slot-le3 : goal.returns-then-slot-le3
returns-then-slot-le3 c = simp (le-leb _ _ c.if-slot-le3.true) c.emit.ensures

pub returns-then-slot-le255 : goal.returns-then-slot-le255
returns-then-slot-le255 c = simp (lt-leb _ _ c.if-slot-le3.false, le-leb _ _ c.if-slot-le255.true) c.emit_u8.ensures

pub returns : goal.returns
returns c = simp (lt-leb _ _ c.if-slot-le3.false, lt-leb _ _ c.if-slot-le255.false) c.emit_u16.ensures
