-- `text::lister::went` meets its contract, by the cases of what was placed.
-- Assumes nothing.
use Rattle.op.specs.declared.Refusal.{Refusal}
use Rattle.std.specs.Prelude.{Result, ℕ}
use mathlib.Core.Path.{sym, ap}
use Rattle.text.specs.Inner.{went_by}
use Rattle.text.proofs.lister.went.Goals as goal

pub returns-in-Ok : goal.returns-in-Ok
returns-in-Ok c =
    sym (ap (λ (p : Result ℕ Refusal). went_by p c.args.at c.args.to c.args.next c.args.going)
    c.in-Ok.is)

pub returns-in-Err : goal.returns-in-Err
returns-in-Err c =
    sym (ap (λ (p : Result ℕ Refusal). went_by p c.args.at c.args.to c.args.next c.args.going)
    c.in-Err.is)
