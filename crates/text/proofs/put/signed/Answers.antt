-- `text::put::signed` meets its contract: the sign and the magnitude say the number.
-- Assumes nothing.
use Rattle.text.proofs.Putting.{same_places}
use Rattle.text.proofs.Signs.{sign_whole}
use Rattle.text.proofs.put.signed.Goals as goal

pub returns : goal.returns
returns c =
    same_places (sign_whole c.args.z c.unsigned_abs.result c.ranges.z
    c.unsigned_abs.ensures.value) c.number.ensures
