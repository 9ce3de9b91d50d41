-- `builder::plan::enter` meets its contract: its tests are the definition's, in R28's order.
-- Assumes nothing.
use Rattle.builder.specs.Plan.{enter_of}
use Rattle.op.specs.Opcodes.{known}
use borrow.Author.Tests.{le-leb, lt-leb}
use Rattle.builder.proofs.plan.enter.Goals as goal

pub returns-then-not-sound : goal.returns-then-not-sound
unfolding enter_of
returns-then-not-sound c = simp (c.if-not-sound.true)

pub returns-then-opcode-gt-LAST : goal.returns-then-opcode-gt-LAST
unfolding enter_of known
returns-then-opcode-gt-LAST c = simp (c.if-not-sound.false, lt-leb _ _ c.if-opcode-gt-LAST.true)

pub returns-then-name-gt-WORD_MAX : goal.returns-then-name-gt-WORD_MAX
unfolding enter_of known
returns-then-name-gt-WORD_MAX c =
    simp (
      c.if-not-sound.false,
      le-leb _ _ c.if-opcode-gt-LAST.false,
      lt-leb _ _ c.if-name-gt-WORD_MAX.true,
    )

pub returns : goal.returns
unfolding enter_of known
returns c =
    simp (
      c.if-not-sound.false,
      le-leb _ _ c.if-opcode-gt-LAST.false,
      le-leb _ _ c.if-name-gt-WORD_MAX.false,
    )
