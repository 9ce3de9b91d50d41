use Rattle.std.proofs.Common.{◌-◌, ◌∙◌, ap, arith, length, drop, length-drop}
use Rattle.std.proofs.lemmas.Bool.Decides.{nat_tests}
use lib.Seq.{take_all}
use Rattle.words.specs.Numbers.{number_of, plus_of, minus_of}
use Rattle.words.proofs.Reading.{signed_read, unsigned_read}
use Rattle.words.proofs.whole.Goals as goal
use Rattle.words.proofs.whole.Goals.{then-t-lt1, else-t-lt1+in_default-1}

pub returns-in-45 : goal.returns-in-45
returns-in-45 c =
    let t = c.args.t.now in
    c.minus.ensures
    ∙ ap minus_of (c.natural.ensures ∙ ap number_of (take_all (length t - 1) (drop 1 t) (simp length-drop (omega arith))))
    ∙ signed_read t (omega arith) (omega arith)

pub returns : goal.returns
returns c =
    let t = c.args.t.now in
    c.plus.ensures ∙ ap plus_of c.natural-2.ensures ∙ unsigned_read t (λ h k. elim c.if-t-lt1.branch [ then-t-lt1 w ↦ grind (arith, nat_tests) | else-t-lt1+in_default-1 w ↦ grind (arith, nat_tests) ])
