-- `code::decoder::step_at` meets its contract: the law of `decode` past the end, and `first` on the rest.
-- Assumes nothing.
use mathlib.Core.Path.{◌∙◌, sym, ap}
use Prim.Native.Nat.{◌-◌}
use native.Mathlib.Omega.{arith}
use lib.ListN.{length, drop, length-drop}
use lib.Seq.{take_all}
use Rattle.op.specs.Opcodes.{last_opcode}
use Rattle.code.specs.Decode.{decode}
use Rattle.code.proofs.Decoding.{decode_past}
use Rattle.code.proofs.decoder.step_at.Goals as goal

pub returns-then-code-at : goal.returns-then-code-at
returns-then-code-at c = sym (decode_past _ c.args.at c.args.code.now c.if-code-at.true)

pub returns : goal.returns
returns c =
    let s = c.args.code.now in
    let at = c.args.at in
    c.first.ensures ∙ ap (decode last_opcode at)
    (take_all (length s - at) (drop at s) (simp length-drop (omega arith)))
