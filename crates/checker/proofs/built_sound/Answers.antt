-- `checker::built_sound` meets its contract: its tests are the definition's.
-- Assumes nothing.
use borrow.Author.Tests.{le-leb, lt-leb}
use Rattle.checker.specs.Promise.{built_sound}
use Rattle.checker.proofs.built_sound.Goals as goal
use Rattle.checker.proofs.built_sound.Goals.{then-cl-used-via-then-cl-used}
use Rattle.checker.proofs.built_sound.Goals.{then-cl-used-via-else-cl-used+then-used-gt-CODE_LIMIT}

pub returns-then-cl-used : goal.returns-then-cl-used
unfolding built_sound
returns-then-cl-used c = elim c.then-cl-used.branch [
  | then-cl-used-via-then-cl-used w ↦ simp (lt-leb _ _ w.if-cl-used.true)
  | then-cl-used-via-else-cl-used+then-used-gt-CODE_LIMIT w ↦
      simp (le-leb _ _ w.if-cl-used.false, lt-leb _ _ w.if-used-gt-CODE_LIMIT.true)
]

pub returns : goal.returns
unfolding built_sound
returns c = simp (le-leb _ _ c.if-cl-used.false, le-leb _ _ c.if-used-gt-CODE_LIMIT.false)
