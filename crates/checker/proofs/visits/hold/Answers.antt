-- `checker::visits::hold` meets its contract: one law of Visiting for each return, with any list.
-- Assumes nothing.
use Rattle.checker.proofs.Visiting.{asked_same, asked_clash, asked_fresh}
use Rattle.checker.proofs.visits.hold.Goals as goal

pub returns-then-was-depth : goal.returns-then-was-depth
returns-then-was-depth c =
    λ w top R. asked_same c.args.cells.now w top c.args.o c.args.depth R c.requires.0 c.requires.1
    c.if-was-depth.true

pub returns-then-was-le-WORD_MAX : goal.returns-then-was-le-WORD_MAX
returns-then-was-le-WORD_MAX c =
    λ w top R. asked_clash c.args.cells.now w top c.args.o c.args.depth R c.requires.0 c.requires.1
    c.if-was-le-WORD_MAX.true c.if-was-depth.false

pub returns : goal.returns
returns c =
    λ w top R. asked_fresh c.args.cells.now w top c.args.o c.args.depth R c.requires.0 c.requires.1
    c.if-was-le-WORD_MAX.false
