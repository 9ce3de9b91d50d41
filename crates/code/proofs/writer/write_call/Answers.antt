-- `code::writer::write_call` meets its contract: the names behind the first 3 bytes are one front.
-- Assumes nothing.
use mathlib.Core.List.{[], ◌∷◌}
use Prim.Native.Nat.{◌+◌, ◌≤◌}
use native.Mathlib.Omega.{arith}
use lib.ListN.{length}
use Rattle.code.specs.Bytes.{names_bytes}
use Rattle.code.proofs.Inverse.{length_names}
use Rattle.code.proofs.Stores.{lent, lent_behind}
use Rattle.code.proofs.writer.write_call.Goals as goal

pub returns : goal.returns
returns c =
    let a = c.args in
    let b = names_bytes a.names.now in
    let h : 3 + length b ≤ length c.put.new.out = omega (arith, length_names a.names.now) in
    rw (c.write_names.ensures, lent 3 b c.put.new.out h, c.put.ensures)
    (lent_behind (a.opcode ∷ a.positional ∷ a.n ∷ []) b a.out.now)
