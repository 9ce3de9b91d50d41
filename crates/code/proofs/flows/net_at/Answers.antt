-- `code::flows::net_at` meets its contract: a fixed effect is the effect of any operand, the others go by two numbers.
-- Assumes nothing.
use Rattle.std.specs.Prelude.{Ok}
use mathlib.Core.Path.{sym, ap, ◌∙◌}
use lib.ListN.{drop}
use Rattle.code.specs.Flow.{change_of}
use Rattle.code.proofs.Moving.{net_fixed, net_refused, net_numbers}
use Rattle.code.proofs.flows.net_at.Goals as goal

pub returns-in_default : goal.returns-in_default
returns-in_default c =
    let u = drop c.args.at c.args.code.now in
    net_refused c.args.opcode c.args.shape u c.requires.1 _ (sym c.fixed.ensures ∙ c.in_default.is)

pub returns-in-Some : goal.returns-in-Some
returns-in-Some c =
    let u = drop c.args.at c.args.code.now in
    net_fixed c.args.opcode c.args.shape u c.requires.1 _ _ (sym c.fixed.ensures ∙ c.in-Ok.is ∙ ap Ok c.in-Some.is)

pub returns-in-None : goal.returns-in-None
returns-in-None c =
    let u = drop c.args.at c.args.code.now in
    c.change_of.ensures ∙ ap change_of (c.by_numbers.ensures.0
    ∙ net_numbers c.args.opcode c.args.shape u c.requires.1 _ _ c.former.ensures
    c.last.ensures)
