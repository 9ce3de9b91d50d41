-- `builder::forward::commit_jump` meets its contract: the jump as any instruction, and the mark's row.
-- Assumes nothing.
use Prim.Native.Nat.{◌*◌, ◌+◌, ◌≤◌}
use Rattle.code.proofs.Putting.{put_lent}
use Rattle.builder.specs.Marks.{mark_row, open_kind}
use Rattle.code.specs.Tables.{mark_cells}
use lib.ListN.{length}
use mathlib.Core.Path.{refl}
use native.Mathlib.Omega.{arith}
use Rattle.builder.proofs.forward.commit_jump.Goals as goal

pub returns : goal.returns
returns c =
    let a = c.args in
    let w = c.commit-rows.ensures in
    let h : a.core.marks * mark_cells + 4 ≤ length a.marks.now = omega (arith, c.requires.mark) in
    record {
      state = rw w.count refl;
      bytes = w.bytes;
      rows = w.rows;
      mark = rw c.put.ensures
          (put_lent (a.core.marks * mark_cells) (mark_row open_kind a.core.code a.t) a.marks.now h);
    }
