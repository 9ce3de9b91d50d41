-- `builder::Builder::emit_i8` meets its contract: the helper's promise; a number is what its bits say.
-- Assumes nothing.
use Rattle.builder.specs.Emission.{emit_named}
use mathlib.Core.List.{[]}
use mathlib.Core.Path.{◌∙◌, ap}
use mir.Syntax.{w8}
use mir.Facts.{to_z-of_z}
use lib.IntN.{ℤ}
use Rattle.op.specs.declared.Operand.TheVariants.{I8}
use Rattle.builder.proofs.Builder.emit_i8.Goals as goal

pub returns : goal.returns
returns c =
    let a = c.args in
    c.emit_with_operand.ensures
    ∙ ap (λ (z : ℤ). emit_named a.self a.opcode 0 (I8 z) [] a.code.now a.locations.now)
    (to_z-of_z {w = w8} c.ranges.operand)
