-- `readback::operands::of_shape` meets its contract: in each arm the shape is what the match told, and the fields are the
-- numbers that were found.
-- Assumes nothing.
use mathlib.Core.Path.{sym, ◌∙◌}
use borrow.Author.Rules.{rules}
use native.Mathlib.Omega.{arith}
use Rattle.readback.specs.Operands.{operand_for, and_then}
use Rattle.readback.proofs.Speaking.{none_says, end, names}
use Rattle.readback.proofs.operands.of_shape.Goals as goal

pub returns-in-None : goal.returns-in-None
returns-in-None c = rw c.in-None.is (c.told.ensures ∙ sym (none_says c.args.minus c.args.cells.now))

pub returns-in_ok-byte-in-U8 : goal.returns-in_ok-byte-in-U8
unfolding operand_for and_then
returns-in_ok-byte-in-U8 c =
    rw (c.in-U8.is, sym c.byte.ensures ∙ c.in_ok-byte-in-U8.was)
    (c.told-in-U8.ensures ∙ sym (end c.args.minus c.args.cells.now 1 _))

pub returns-in_ok-tiny-in-I8 : goal.returns-in_ok-tiny-in-I8
unfolding operand_for and_then
returns-in_ok-tiny-in-I8 c =
    rw (c.in-I8.is, sym c.tiny.ensures ∙ c.in_ok-tiny-in-I8.was)
    (c.told-in-I8.ensures ∙ search rules ∙ sym (end c.args.minus c.args.cells.now 1 _))

pub returns-in_ok-word-in-U16 : goal.returns-in_ok-word-in-U16
unfolding operand_for and_then
returns-in_ok-word-in-U16 c =
    rw (c.in-U16.is, sym c.word.ensures ∙ c.in_ok-word-in-U16.was)
    (c.told-in-U16.ensures ∙ sym (end c.args.minus c.args.cells.now 1 _))

pub returns-in_ok-short-in-Offset : goal.returns-in_ok-short-in-Offset
unfolding operand_for and_then
returns-in_ok-short-in-Offset c =
    rw (c.in-Offset.is, sym c.short.ensures ∙ c.in_ok-short-in-Offset.was)
    (c.told-in-Offset.ensures ∙ search rules ∙ sym (end c.args.minus c.args.cells.now 1 _))

pub returns-in_ok-b-in-U8U8 : goal.returns-in_ok-b-in-U8U8
unfolding operand_for and_then
returns-in_ok-b-in-U8U8 c =
    rw (c.in-U8U8.is, sym c.byte-in-U8U8.ensures ∙ c.in_ok-a-in-U8U8.was, sym c.byte-in-U8U8-2.ensures ∙ c.in_ok-b-in-U8U8.was)
    (c.told-in-U8U8.ensures ∙ sym (end c.args.minus c.args.cells.now 2 _))

pub returns-in_ok-b-in-U16U8 : goal.returns-in_ok-b-in-U16U8
unfolding operand_for and_then
returns-in_ok-b-in-U16U8 c =
    rw (c.in-U16U8.is, sym c.word-in-U16U8.ensures ∙ c.in_ok-a-in-U16U8.was, sym c.byte-in-U16U8.ensures ∙ c.in_ok-b-in-U16U8.was)
    (c.told-in-U16U8.ensures ∙ sym (end c.args.minus c.args.cells.now 2 _))

pub returns-in_ok-b-in-U16U16 : goal.returns-in_ok-b-in-U16U16
unfolding operand_for and_then
returns-in_ok-b-in-U16U16 c =
    rw (c.in-U16U16.is, sym c.word-in-U16U16.ensures ∙ c.in_ok-a-in-U16U16.was, sym c.word-in-U16U16-2.ensures ∙ c.in_ok-b-in-U16U16.was)
    (c.told-in-U16U16.ensures ∙ sym (end c.args.minus c.args.cells.now 2 _))

pub returns-in_ok-d-in-U16U8U8 : goal.returns-in_ok-d-in-U16U8U8
unfolding operand_for and_then
returns-in_ok-d-in-U16U8U8 c =
    rw (c.in-U16U8U8.is, sym c.word-in-U16U8U8.ensures ∙ c.in_ok-a-in-U16U8U8.was, sym c.byte-in-U16U8U8.ensures ∙ c.in_ok-b-in-U16U8U8.was, sym c.byte-in-U16U8U8-2.ensures ∙ c.in_ok-d-in-U16U8U8.was)
    (c.told-in-U16U8U8.ensures ∙ sym (end c.args.minus c.args.cells.now 3 _))

pub returns-in_ok-names-in-CallKw : goal.returns-in_ok-names-in-CallKw
unfolding operand_for and_then
returns-in_ok-names-in-CallKw c =
    rw (c.in-CallKw.is, sym c.byte-in-CallKw.ensures ∙ c.in_ok-positional-in-CallKw.was, sym c.byte-in-CallKw-2.ensures ∙ c.in_ok-names-in-CallKw.was)
    (c.told-in-CallKw.ensures ∙ sym (names c.args.minus c.args.cells.now 1 _ _ (λ i. omega (arith, c.type_inv.cells i))
    (sym c.byte-in-CallKw-2.ensures ∙ c.in_ok-names-in-CallKw.was) _))

pub returns-in_ok-names-in-CallAttrKw : goal.returns-in_ok-names-in-CallAttrKw
unfolding operand_for and_then
returns-in_ok-names-in-CallAttrKw c =
    rw (c.in-CallAttrKw.is, sym c.word-in-CallAttrKw.ensures ∙ c.in_ok-attribute-in-CallAttrKw.was, sym c.byte-in-CallAttrKw.ensures ∙ c.in_ok-positional-in-CallAttrKw.was, sym c.byte-in-CallAttrKw-2.ensures ∙ c.in_ok-names-in-CallAttrKw.was)
    (c.told-in-CallAttrKw.ensures ∙ sym (names c.args.minus c.args.cells.now 2 _ _ (λ i. omega (arith, c.type_inv.cells i))
    (sym c.byte-in-CallAttrKw-2.ensures ∙ c.in_ok-names-in-CallAttrKw.was) _))

pub returns-in_ok-d-in-U16U16U8 : goal.returns-in_ok-d-in-U16U16U8
unfolding operand_for and_then
returns-in_ok-d-in-U16U16U8 c =
    rw (c.in-U16U16U8.is, sym c.word-in-U16U16U8.ensures ∙ c.in_ok-a-in-U16U16U8.was, sym c.word-in-U16U16U8-2.ensures ∙ c.in_ok-b-in-U16U16U8.was, sym c.byte-in-U16U16U8.ensures ∙ c.in_ok-d-in-U16U16U8.was)
    (c.told-in-U16U16U8.ensures ∙ sym (end c.args.minus c.args.cells.now 3 _))
