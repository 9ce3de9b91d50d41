-- `code::sizes::size_by` meets its contract: the size by the names' count, if the code has as much.
-- Assumes nothing.
use mathlib.Core.Path.{sym, ap}
use Rattle.code.specs.Decode.{size_in}
use Rattle.code.proofs.Decoding.{at_cut, at_whole}
use Rattle.code.proofs.sizes.size_by.Goals as goal

pub returns-then-code-at : goal.returns-then-code-at
returns-then-code-at c =
    sym (ap size_in (at_cut c.args.code.now c.args.at c.requires.0 c.args.shape c.requires.1 _
    c.size-size.ensures c.if-code-at.true))

pub returns : goal.returns
returns c =
    sym (ap size_in (at_whole c.args.code.now c.args.at c.requires.0 c.args.shape c.requires.1
    _ c.size-size.ensures c.if-code-at.false))
