use Rattle.std.proofs.Common.{◌≡◌, ◌<◌, ◌+◌, ◌-◌, ◌*◌, sym, ap, ◌∙◌, arith, drop, get_or}
use Rattle.std.specs.Prelude.{Err}
use Rattle.std.proofs.lemmas.Grind.{common_steps}
use Rattle.words.specs.declared.NumberError.TheVariants.{Large}
use Rattle.words.specs.Numbers.{fitted}
use Rattle.words.proofs.Reading.{fits_is, onto_on, onto_end, stays_large}
use Rattle.words.proofs.said.Goals as goal

pub returns-in_err-v : goal.returns-in_err-v
returns-in_err-v c =
    let t = c.args.t.now in
    let i = c.loop-c.c-index in
    let v = c.loop-c.v in
    let n = v * 10 + (get_or t i 0 - 48) in
    let e = ap fitted (sym c.loop-c.invariant.0 ∙ onto_on t i v c.loop-c-test.true) in
    let out : 18446744073709551615 < n = grind (arith, common_steps) in
    let r : c.from_residual.result ≡ Err Large = grind (arith, common_steps) in
    r ∙ sym (e ∙ stays_large n (drop (i + 1) t) out)

pub returns : goal.returns
returns c =
    let t = c.args.t.now in
    let e = sym (onto_end t c.loop-c.c-index c.loop-c.v c.loop-c-test.false) ∙ c.loop-c.invariant.0 in
    sym (ap fitted (sym e) ∙ fits_is c.loop-c.v (omega arith))
