-- `readback::placing::matched` meets its contract: by cases.
-- Assumes nothing.
use Rattle.readback.proofs.placing.matched.Goals as goal

pub returns-then-off : goal.returns-then-off
returns-then-off c = simp (c.in-Here.is, c.if-off.true)

pub returns-else-off : goal.returns-else-off
returns-else-off c = simp (c.in-Here.is, c.if-off.false)

pub returns-in-Elsewhere : goal.returns-in-Elsewhere
returns-in-Elsewhere c = simp c.in-Elsewhere.is

pub returns-in-Not : goal.returns-in-Not
returns-in-Not c = simp c.in-Not.is
