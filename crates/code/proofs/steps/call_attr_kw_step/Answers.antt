-- `code::steps::call_attr_kw_step` meets its contract: the laws of `step_in`, one for each return; the size and the
-- operand compute.
-- Assumes nothing.
use mathlib.Core.Path.{refl, ap}
use Prim.Native.Nat.{ℕ, ◌+◌, ◌*◌}
use native.Mathlib.Omega.{arith}
use Rattle.op.specs.Shapes.{size_of}
use Rattle.code.specs.Decode.{operand_in}
use Rattle.code.proofs.Decoding.{step_cut, step_instr}
use Rattle.code.proofs.steps.call_attr_kw_step.Goals as goal

pub returns-then-bytes-lt5 : goal.returns-then-bytes-lt5
unfolding size_of operand_in
returns-then-bytes-lt5 c =
    step_cut c.args.at _ c.args.bytes.now _ refl
    (omega (arith, c.if-bytes-lt5.true))

pub returns-then-bytes-size : goal.returns-then-bytes-size
unfolding size_of operand_in
returns-then-bytes-size c =
    step_cut c.args.at _ c.args.bytes.now _
    (ap (λ (x : ℕ). 5 + 2 * x) c.from.ensures) c.if-bytes-size.true

pub returns : goal.returns
unfolding size_of operand_in
returns c =
    step_instr c.args.at _ c.args.bytes.now _
    (ap (λ (x : ℕ). 5 + 2 * x) c.from.ensures) _ (rw c.word_at.ensures)
    c.if-bytes-size.false
