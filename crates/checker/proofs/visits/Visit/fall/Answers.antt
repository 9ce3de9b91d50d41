-- `checker::visits::Visit::fall` meets its contract: the landing, and where the instruction falls, what the next place is
-- asked.
-- Assumes nothing.
use mathlib.Core.Path.{subst}
use Rattle.checker.specs.Inner.{Landed}
use Rattle.checker.proofs.Growing.{passes_with}
use Rattle.checker.proofs.Visiting.{fell_on}
use Rattle.checker.proofs.visits.Visit.fall.Goals as goal

pub returns-then-flow : goal.returns-then-flow
returns-then-flow c =
    let v = c.args.self in
    let L = subst (Landed v.depth v.flow.net) c.in_ok-behind.ensures.ok_part c.land.ensures in
    λ w top R. passes_with w top c.hold.result
    (λ x y. fell_on v.flow c.args.cells.now w top v.at v.depth R c.in_ok-behind.behind L c.hold.new.cells x y
    c.if-flow.true)
    (c.hold.ensures w top R)
