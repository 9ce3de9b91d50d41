-- `readback::fields::same` meets its contract: the library's equality is the definition's.
-- Assumes nothing.
use Rattle.std.proofs.Common.{◌∙◌}
use Rattle.readback.proofs.Cutting.{same_is}
use Rattle.readback.proofs.fields.same.Goals as goal

pub returns : goal.returns
returns c = c.eq.ensures ∙ same_is c.args.s.now c.args.t.now
