-- `readback::numbers::small_number` meets its contract: the number in 64 bits is the text's.
-- Assumes nothing.
use mathlib.Core.Path.{◌∙◌, ap}
use Rattle.text.specs.Reading.{read_whole}
use Rattle.readback.specs.Inner.{narrow_of}
use Rattle.readback.proofs.Sayable.{narrow_is}
use Rattle.readback.proofs.numbers.small_number.Goals as goal

pub returns : goal.returns
returns c = c.narrow.ensures ∙ ap narrow_of c.whole.ensures ∙ narrow_is (read_whole c.args.t.now)
