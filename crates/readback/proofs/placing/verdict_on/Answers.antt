-- `readback::placing::verdict_on` meets its contract: by cases.
-- Assumes nothing.
use Rattle.readback.proofs.placing.verdict_on.Goals as goal

pub returns-in-Here : goal.returns-in-Here
returns-in-Here c = simp c.in-Here.is c.matched.ensures

pub returns-in-Elsewhere : goal.returns-in-Elsewhere
returns-in-Elsewhere c = simp c.in-Elsewhere.is c.matched-in-Elsewhere.ensures

pub returns-in-Not : goal.returns-in-Not
returns-in-Not c = simp c.in-Not.is
