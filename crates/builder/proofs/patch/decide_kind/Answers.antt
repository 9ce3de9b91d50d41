-- `builder::patch::decide_kind` meets its contract: an arm for each variant.
-- Assumes nothing.
use Rattle.builder.proofs.PatchPlans.{fits_true}
use mathlib.Core.Path.{refl}
use Rattle.builder.proofs.patch.decide_kind.Goals as goal

pub decide_open-requires : goal.decide_open-requires
decide_open-requires c = (c.requires.0, (fits_true _ _ _ (rw c.in-Open.is at c.requires.1)).0)

pub returns-in-Absent : goal.returns-in-Absent
returns-in-Absent c = rw c.in-Absent.is refl

pub returns-in-Target : goal.returns-in-Target
returns-in-Target c = rw c.in-Target.is refl

pub returns-in-Patched : goal.returns-in-Patched
returns-in-Patched c = rw c.in-Patched.is refl

pub returns-in-Open : goal.returns-in-Open
returns-in-Open c = rw c.in-Open.is c.decide_open.ensures
