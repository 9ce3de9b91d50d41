use Rattle.std.proofs.Common.{◌*◌, drop}
use Rattle.text.specs.Fields.{names_text}
use Rattle.text.proofs.Putting.{Left}
use Rattle.text.proofs.row.names.Given as goal

abbrev pub invariant-loop-word : goal.invariant-loop-word
invariant-loop-word l =
    Left l.initial.out l.to (names_text l.bytes) l.o l.out (names_text (drop (2 * l.word-index) l.bytes))
