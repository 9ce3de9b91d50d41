-- `builder::marks::mark_sound` meets its contract: an arm for each variant.
-- Assumes nothing.
use Rattle.builder.proofs.marks.mark_sound.Goals as goal

pub returns-in-Open : goal.returns-in-Open
returns-in-Open c = rw c.in-Open.is c.fits_code.ensures

pub returns-in-Patched : goal.returns-in-Patched
returns-in-Patched c = rw c.in-Patched.is c.fits_code-in-Patched.ensures

pub returns-in-Target : goal.returns-in-Target
returns-in-Target c = rw c.in-Target.is c.fits_code-in-Target.ensures
