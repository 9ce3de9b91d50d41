-- `readback::naming::slot` meets its contract: no sum leaves 64 bits.
-- Assumes nothing.
use Rattle.readback.specs.Inner.{slot_of}
use Rattle.readback.proofs.naming.slot.Goals as goal

pub returns : goal.returns
unfolding slot_of
returns c =
    rw (
      c.letter-4.ensures.0,
      c.letter-3.ensures.0,
      c.letter-2.ensures.0,
      c.letter.ensures.0,
      c.saturating_sub-3.ensures,
      c.saturating_sub-2.ensures,
      c.saturating_sub.ensures,
    )
