-- `checker::visits::Visit::jump` meets its contract: the mark, the landing, then what the target is asked.
-- Assumes nothing.
use mathlib.Core.Path.{subst, sym, ◌∙◌}
use Rattle.checker.specs.Inner.{Landed}
use Rattle.checker.proofs.Visiting.{jumped_on}
use Rattle.checker.proofs.visits.Visit.jump.Goals as goal

pub returns : goal.returns
returns c =
    let v = c.args.self in
    let L = subst (Landed v.depth v.flow.taken) c.in_ok-there.ensures.ok_part c.land.ensures in
    jumped_on v.flow c.args.cells.now c.args.work.now c.args.top v.at v.depth c.requires.0 c.args.t c.requires.1
    c.in_ok-there.there L c.ask.new.cells c.ask.new.work c.ask.result
    (sym c.marked.ensures ∙ c.if-not-marked.false) c.ask.ensures
