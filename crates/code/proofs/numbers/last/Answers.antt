-- `code::numbers::last` meets its contract: in each arm the operand of the arm's shape has that number.
-- Assumes nothing.
use mathlib.Core.Path.{◌≡◌, sym, ap, ◌∙◌}
use mathlib.Core.List.{List}
use Prim.Native.Nat.{ℕ}
use lib.ListN.{drop}
use Rattle.op.specs.Effects.{last_of}
use Rattle.op.specs.declared.Shape.{Shape}
use Rattle.code.specs.Decode.{operand_in}
use Rattle.code.proofs.numbers.last.Goals as goal

-- in an arm of the shape k
last_in : (u : List ℕ) {x k : Shape} → x ≡ k → last_of (operand_in k u) ≡ last_of (operand_in x u)
last_in u e = ap (λ (y : Shape). last_of (operand_in y u)) (sym e)

pub returns-in-None : goal.returns-in-None
unfolding operand_in
returns-in-None c = last_in (drop c.args.at c.args.code.now) c.in-None.is

pub returns-in-U8 : goal.returns-in-U8
unfolding operand_in
returns-in-U8 c = c.byte.ensures ∙ last_in (drop c.args.at c.args.code.now) c.in-U8.is

pub returns-in-I8 : goal.returns-in-I8
unfolding operand_in
returns-in-I8 c = last_in (drop c.args.at c.args.code.now) c.in-I8.is

pub returns-in-U16 : goal.returns-in-U16
unfolding operand_in
returns-in-U16 c = c.word.ensures ∙ last_in (drop c.args.at c.args.code.now) c.in-U16.is

pub returns-in-Offset : goal.returns-in-Offset
unfolding operand_in
returns-in-Offset c = last_in (drop c.args.at c.args.code.now) c.in-Offset.is

pub returns-in-U8U8 : goal.returns-in-U8U8
unfolding operand_in
returns-in-U8U8 c = c.byte-in-U8U8.ensures ∙ last_in (drop c.args.at c.args.code.now) c.in-U8U8.is

pub returns-in-U16U8 : goal.returns-in-U16U8
unfolding operand_in
returns-in-U16U8 c = c.byte-in-U16U8.ensures ∙ last_in (drop c.args.at c.args.code.now) c.in-U16U8.is

pub returns-in-U16U16 : goal.returns-in-U16U16
unfolding operand_in
returns-in-U16U16 c = c.word-in-U16U16.ensures ∙ last_in (drop c.args.at c.args.code.now) c.in-U16U16.is

pub returns-in-U16U8U8 : goal.returns-in-U16U8U8
unfolding operand_in
returns-in-U16U8U8 c = c.byte-in-U16U8U8.ensures ∙ last_in (drop c.args.at c.args.code.now) c.in-U16U8U8.is

pub returns-in-CallKw : goal.returns-in-CallKw
unfolding operand_in
returns-in-CallKw c = c.byte-in-CallKw.ensures ∙ last_in (drop c.args.at c.args.code.now) c.in-CallKw.is

pub returns-in-CallAttrKw : goal.returns-in-CallAttrKw
unfolding operand_in
returns-in-CallAttrKw c = c.byte-in-CallAttrKw.ensures ∙ last_in (drop c.args.at c.args.code.now) c.in-CallAttrKw.is

pub returns-in-U16U16U8 : goal.returns-in-U16U16U8
unfolding operand_in
returns-in-U16U16U8 c = c.byte-in-U16U16U8.ensures ∙ last_in (drop c.args.at c.args.code.now) c.in-U16U16U8.is
