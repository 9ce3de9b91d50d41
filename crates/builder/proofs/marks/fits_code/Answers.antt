-- `builder::marks::fits_code` meets its contract: its test is the definition's.
-- Assumes nothing.
use Rattle.builder.specs.Marks.{fits}
use borrow.Author.Tests.{le-leb, lt-leb}
use Rattle.builder.proofs.marks.fits_code.Goals as goal

pub returns-then-depth-gt-WORD_MAX : goal.returns-then-depth-gt-WORD_MAX
unfolding fits
returns-then-depth-gt-WORD_MAX c = simp (lt-leb _ _ c.if-depth-gt-WORD_MAX.true)

pub returns : goal.returns
unfolding fits
returns c = simp (le-leb _ _ c.if-depth-gt-WORD_MAX.false)
