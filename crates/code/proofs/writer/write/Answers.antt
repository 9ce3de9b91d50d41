-- `code::writer::write` meets its contract: the answer is the decision, and where it goes ahead the bytes are the
-- front.
-- Assumes nothing.
use Rattle.std.proofs.lemmas.Result.{err_from_is_err_and}
use Rattle.op.specs.declared.Refusal.{Refusal}
use Rattle.std.specs.Prelude.{Result, ℕ}
use mathlib.Core.Path.{◌∙◌, sym, ap}
use Rattle.code.specs.Encode.{encode, filled}
use Rattle.code.proofs.Writing.{writable}
use Rattle.code.proofs.writer.write.Goals as goal

pub fill-requires : goal.fill-requires
fill-requires c =
    writable c.args.opcode c.args.operand c.args.names.now c.args.out.now _ (sym c.decide.ensures ∙ c.in_ok-size.was)

pub returns-in_err-size : goal.returns-in_err-size
returns-in_err-size c =
    let a = c.args in
    let p = err_from_is_err_and c.from_residual.result c.from_residual.ensures.1 in
    let e = sym c.decide.ensures ∙ c.in_err-size.was in
    rw (p.1, p.2)
    (record {
      answers = sym e;
      cells = ap (λ (w : Result ℕ Refusal). filled w (encode a.opcode a.operand a.names.now) a.out.now) (sym e);
    })

pub returns : goal.returns
returns c =
    let a = c.args in
    let e = sym c.decide.ensures ∙ c.in_ok-size.was in
    record {
      answers = sym e;
      cells = c.fill.ensures
          ∙ ap (λ (w : Result ℕ Refusal). filled w (encode a.opcode a.operand a.names.now) a.out.now) (sym e);
    }
