-- `builder::emission::commit` meets its contract: the writer's promise of the lent code, and the location's row.
-- Assumes nothing.
use Prim.Native.Nat.{◌+◌, ◌≤◌}
use Rattle.builder.proofs.Emitted.{written_put}
use Rattle.code.proofs.Inverse.{length_encode}
use Rattle.code.specs.Encode.{encode}
use lib.ListN.{length}
use native.Mathlib.Omega.{arith}
use Rattle.builder.proofs.emission.commit.Goals as goal

pub returns : goal.returns
returns c =
    let a = c.args in
    let p = c.requires in
    let w = c.write_location in
    let z = length_encode a.opcode a.operand a.kwnames.now p.count in
    let h : a.core.code + length (encode a.opcode a.operand a.kwnames.now) ≤ length a.code.now = omega
    (arith, z, p.code, p.sound.code) in
    record {
      count = w.ensures.0;
      bytes = written_put a.opcode a.operand a.kwnames.now a.code.now a.core.code _ _ _
          c.write.ensures p.written h;
      rows = w.ensures.1;
    }
