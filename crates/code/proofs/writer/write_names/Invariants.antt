use mathlib.Core.Path.{◌≡◌}
use lib.ListN.{take}
use Rattle.code.specs.Bytes.{front, names_bytes}
use Rattle.code.proofs.writer.write_names.Given as goal

abbrev pub invariant-loop-i : goal.invariant-loop-i
invariant-loop-i l = l.out ≡ front (names_bytes (take l.i l.names)) l.initial.out
