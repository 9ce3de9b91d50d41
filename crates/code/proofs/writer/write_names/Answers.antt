-- `code::writer::write_names` meets its contract. The invariant: the bytes of the names passed stand at the front.
-- Assumes nothing.
use mathlib.Core.Path.{◌≡◌}
use Prim.Native.Nat.{◌/◌, ◌%◌}
use native.Mathlib.Omega.{arith}
use lib.Seq.{take_all}
use Rattle.code.proofs.Stores.{names_more}
use Rattle.code.proofs.writer.write_names.Goals as goal

pub loop-i-preserved : goal.loop-i-preserved
loop-i-preserved c =
    let l = c.loop-i in
    let a = c.args in
    rw (c.halves.ensures, l.invariant) (names_more a.names.now a.out.now l.i (omega arith) (omega arith))

pub returns : goal.returns
returns c = rw (take_all c.loop-i.i c.args.names.now (omega arith)) at c.loop-i.invariant
