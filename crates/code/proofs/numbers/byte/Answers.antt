-- `code::numbers::byte` meets its contract: past the code the default stands.
-- Assumes nothing.
use mathlib.Core.Path.{sym}
use native.Mathlib.Omega.{arith}
use lib.ListN.{drop, length-drop, get_or-eq_default}
use lib.Seq.{get_or-drop}
use Rattle.code.proofs.numbers.byte.Goals as goal

pub returns-then-code-at : goal.returns-then-code-at
returns-then-code-at c =
    let at = c.args.at in
    let s = c.args.code.now in
    sym (get_or-eq_default (drop at s) 0 (omega (arith, c.if-code-at.true, length-drop at s)))

pub returns : goal.returns
returns c = sym (get_or-drop c.args.at c.args.code.now c.args.i 0)
