use mathlib.Core.Path.{◌≡◌}
use lib.ListN.{take}
use Rattle.code.specs.Bytes.{front}
use Rattle.code.proofs.store.put.Given as goal

abbrev pub invariant-loop-i : goal.invariant-loop-i
invariant-loop-i g l = l.out ≡ front (take l.i l.cells) l.initial.out
