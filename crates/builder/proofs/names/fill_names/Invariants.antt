use Rattle.builder.specs.Names.{name_cell}
use Rattle.code.specs.Bytes.{front}
use lib.ListN.{take}
use mathlib.Core.List.{map}
use mathlib.Core.Path.{◌≡◌}
use Rattle.builder.proofs.names.fill_names.Given as goal

abbrev pub invariant-loop-i : goal.invariant-loop-i
invariant-loop-i l = l.out ≡ front (map name_cell (take l.i l.names)) l.initial.out
