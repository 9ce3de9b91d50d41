use Rattle.std.proofs.Common.{◌≡◌, ◌≤◌, drop}
use Rattle.text.specs.Number.{onto, value}
use Rattle.words.proofs.said.Given as goal

abbrev pub invariant-loop-c : goal.invariant-loop-c
invariant-loop-c l = (onto l.v (drop l.c-index l.t) ≡ value l.t) × (l.v ≤ 18446744073709551615)
