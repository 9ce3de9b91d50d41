use Rattle.builder.specs.Marks.{any_open}
use mathlib.Core.Path.{◌≡◌}
use Rattle.builder.proofs.marks.any_open.Given as goal

abbrev pub invariant-loop-i : goal.invariant-loop-i
invariant-loop-i l = l.found ≡ any_open l.i l.marks
