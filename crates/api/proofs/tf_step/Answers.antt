-- `api::tf_step` meets its contract: an instruction ends in the code, and its names are its
-- last bytes.
-- Assumes nothing.
use Rattle.std.specs.Prelude.{Ok}
use mathlib.Core.Path.{◌∙◌, sym, ap}
use native.Mathlib.Omega.{arith}
use Rattle.code.proofs.Decoding.{decoded, decoded_ends}
use Rattle.api.proofs.tf_step.Goals as goal

pub tell_instruction-requires : goal.tell_instruction-requires
tell_instruction-requires c =
    let a = c.args in
    let e = sym c.step_at.ensures ∙ c.in-Ok.is ∙ ap Ok c.in-Some.is in
    (omega (arith, (decoded_ends _ a.at a.code.now _ _ _ e).1), omega (arith, (decoded _ a.at _ _ _ _ e).base))
