-- `checker::lists::expand` meets its contract: an instruction moves on, and where none stands nothing is asked.
-- Assumes nothing.
use mathlib.Core.Path.{ap, ◌∙◌}
use Rattle.std.specs.Prelude.{Ok}
use native.Mathlib.Omega.{arith}
use Rattle.code.proofs.Places.{stands_size}
use Rattle.checker.proofs.Growing.{passes_map}
use Rattle.checker.proofs.Draining.{flow_stands, expanded}
use Rattle.checker.proofs.lists.expand.Goals as goal

pub move_on-requires : goal.move_on-requires
move_on-requires c =
    let stands = flow_stands c.flow_at.ensures (c.in-Ok.is ∙ ap Ok c.in-Some.is) in
    (c.requires.0, omega (arith, stands_size stands, c.requires.1))

pub returns : goal.returns
returns c =
    let stands = flow_stands c.flow_at.ensures (c.in-Ok.is ∙ ap Ok c.in-Some.is) in
    passes_map c.move_on.new.work c.move_on.result
    (λ x y. expanded c.requires.0 c.requires.2 stands c.move_on.new.cells x y)
    c.move_on.ensures
