-- `code::writer::decide` meets its contract: the laws of `written_of`, one for each return.
-- Assumes nothing.
use Rattle.op.proofs.Effected.{shape_refused}
use Rattle.op.specs.Shapes.{shape_of, operand_shape}
use Rattle.std.proofs.Common.{rules}
use Rattle.std.proofs.lemmas.Result.{err_from_is_err_and}
use Rattle.op.proofs.Shaping.{same_shape}
use mathlib.Core.Path.{◌≡◌, ◌∙◌, sym, ap}
use Rattle.op.specs.Shapes.{shape_number}
use Rattle.std.specs.Prelude.{Ok}
use Rattle.code.proofs.Writing.{written_unknown, written_many, written_shape, written_count, written_full}
use Rattle.code.proofs.Writing.{written_size}
use Rattle.code.proofs.writer.decide.Goals as goal
use Rattle.code.proofs.writer.decide.Goals.{In_ok-shape, Else-ne}

-- the opcode's shape
is : (c : In_ok-shape) → shape_of c.args.opcode ≡ Ok c.in_ok-shape.shape
is c = sym c.operand_shape.ensures ∙ c.in_ok-shape.was

-- the operand has it
same : (c : Else-ne) → shape_number c.in_ok-shape.shape ≡ shape_number (operand_shape c.args.operand)
same c = let e : c.in_ok-shape.shape ≡ c.from.result = search rules in ap shape_number (e ∙ c.from.ensures)

pub returns-in_err-shape : goal.returns-in_err-shape
returns-in_err-shape c =
    let p = err_from_is_err_and c.from_residual.result c.from_residual.ensures.1 in
    let e = sym c.operand_shape.ensures ∙ c.in_err-shape.was in
    rw (p.1, p.2, ← (shape_refused _ _ e).1) (written_unknown _ _ _ _ _ e)

pub returns-then-names-gt255 : goal.returns-then-names-gt255
returns-then-names-gt255 c =
    written_many _ _ _ _ _ (is (goal.at.returns-then-names-gt255 c).In_ok-shape) c.if-names-gt255.true

pub returns-then-ne : goal.returns-then-ne
returns-then-ne c =
    written_shape _ _ _ _ _ (is (goal.at.returns-then-ne c).In_ok-shape) c.if-names-gt255.false
    (λ e. let same : c.in_ok-shape.shape ≡ c.from.result = same_shape _ _ (e ∙ ap shape_number (sym c.from.ensures)) in
    search (rules, same))

pub returns-then-names_of-names : goal.returns-then-names_of-names
returns-then-names_of-names c =
    let at = goal.at.returns-then-names_of-names c in
    written_count _ _ _ _ _ (is at.In_ok-shape) c.if-names-gt255.false (same at.Else-ne)
    (λ e. c.if-names_of-names.true (c.names_of.ensures.0 ∙ e))

pub returns-then-room-size : goal.returns-then-room-size
returns-then-room-size c =
    let at = goal.at.returns-then-room-size c in
    written_full _ _ _ _ _ (is at.In_ok-shape) c.if-names-gt255.false (same at.Else-ne)
    (sym c.names_of.ensures.0 ∙ c.if-names_of-names.false) _ c.instruction_size-size.ensures c.if-room-size.true

pub returns : goal.returns
returns c =
    let at = goal.at.returns c in
    written_size _ _ _ _ _ (is at.In_ok-shape) c.if-names-gt255.false (same at.Else-ne)
    (sym c.names_of.ensures.0 ∙ c.if-names_of-names.false) _ c.instruction_size-size.ensures c.if-room-size.false
