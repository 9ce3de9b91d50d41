use Rattle.builder.specs.Names.{named}
use Rattle.code.specs.Bytes.{front}
use Prim.Native.Nat.{ℕ}
use lib.ListN.{take}
use mathlib.Core.List.{map}
use mathlib.Core.Path.{◌≡◌}
use Rattle.builder.proofs.names.fill_absent.Given as goal

abbrev pub invariant-loop-cell : goal.invariant-loop-cell
invariant-loop-cell l =
    l.cell-items ≡ front (map (λ (cell : ℕ). named cell l.name) (take l.cell-index l.fn.cells)) l.fn.cells
