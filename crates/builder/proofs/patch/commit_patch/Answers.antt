-- `builder::patch::commit_patch` meets its contract: the lent part comes back with the two bytes, and one cell changes.
-- Assumes nothing.
use Prim.Native.Nat.{◌+◌, ◌≤◌}
use Rattle.code.proofs.Putting.{put_lent}
use Rattle.code.specs.Bytes.{word_bytes}
use lib.ListN.{length}
use mathlib.Core.Path.{refl}
use native.Mathlib.Omega.{arith}
use Rattle.builder.proofs.patch.commit_patch.Goals as goal

pub returns : goal.returns
returns c =
    let a = c.args in
    let h : a.offset + 1 + 2 ≤ length a.code.now = omega (arith, c.requires.0) in
    record {
      state = refl;
      bytes = rw (c.put.ensures, c.halves.ensures) (put_lent (a.offset + 1) (word_bytes a.w) a.code.now h);
      kind = refl;
    }
