-- `text::write::signed` meets its contract: the sign and the magnitude say the number.
-- Assumes nothing.
use mathlib.Core.Path.{ap}
use native.Mathlib.Omega.{arith}
use lib.ListN.{length}
use Rattle.text.proofs.Putting.{same_text}
use Rattle.text.proofs.Signs.{sign_whole}
use Rattle.text.proofs.write.signed.Goals as goal

pub number-requires : goal.number-requires
number-requires c =
    omega (
      arith,
      ap length (sign_whole c.args.z c.unsigned_abs.result c.ranges.z
          c.unsigned_abs.ensures.value),
      c.requires,
    )

pub returns : goal.returns
returns c =
    same_text (sign_whole c.args.z c.unsigned_abs.result c.ranges.z
    c.unsigned_abs.ensures.value) c.number.ensures
