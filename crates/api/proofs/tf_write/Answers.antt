-- `api::tf_write` meets its contract: over 255 names nothing is written.
-- Assumes nothing.
use mathlib.Core.Path.{◌∙◌, ap}
use Prim.Native.Nat.{◌<◌}
use native.Mathlib.Omega.{arith}
use lib.ListN.{length}
use Rattle.std.proofs.lemmas.Result.{OkIff-at_err}
use Rattle.api.specs.Answers.{refused}
use Rattle.api.proofs.Writes.{writes_many}
use Rattle.api.proofs.tf_write.Goals as goal

pub returns-in_default : goal.returns-in_default
returns-in_default c =
    let a = c.args in
    let few : length a.names.now < 256 → ⊥ = OkIff-at_err _ _ _ _ c.try_from.ensures c.in_default.is in
    let many : 255 < length a.names.now = omega (arith, few) in
    writes_many a.opcode _ a.names.now a.out.now _ many
    (c.refused.ensures ∙ ap refused c.no_write.ensures)
