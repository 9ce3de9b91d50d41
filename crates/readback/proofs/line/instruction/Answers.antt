-- `readback::line::instruction` meets its contract: what the name and the column say is what their functions promise.
-- Assumes nothing.
use Rattle.std.proofs.lemmas.Grind.{common_steps}
use Rattle.std.specs.Prelude.{None, Some}
use Rattle.readback.specs.declared.numbers.Numbers.{Numbers}
use Rattle.std.specs.Prelude.{Option}
use mathlib.Core.List.{List}
use mathlib.Core.Path.{◌≡◌, sym, ap, ◌∙◌, subst}
use Prim.Native.Nat.{◌≤◌, ℕ}
use native.Mathlib.Omega.{arith}
use lib.Seq.{length-take-le}
use lib.ListN.{length, take}
use Rattle.op.specs.Shapes.{shape_of}
use Rattle.text.specs.Reading.{opcode_of, read_operands}
use Rattle.readback.specs.Inner.{Spells}
use Rattle.readback.specs.Operands.{said}
use Rattle.readback.proofs.Telling.{said_unknown, said_none, said_some, spoken_none, spoken_some, names_part}
use Rattle.readback.proofs.Telling.{unsaid_column}
use Rattle.readback.proofs.line.instruction.Goals as goal

pub returns-in_default : goal.returns-in_default
returns-in_default c =
    let a = c.args in
    said_unknown (opcode_of a.name.now) (read_operands a.column.now) _
    (ap shape_of (sym c.opcode-opcode.ensures) ∙ sym c.operand_shape-shaped.ensures
    ∙ c.in_default.is)

pub returns-in_err-numbers : goal.returns-in_err-numbers
returns-in_err-numbers c =
    let a = c.args in
    let is = ap shape_of (sym c.opcode-opcode.ensures) ∙ sym c.operand_shape-shaped.ensures
    ∙ c.in-Ok.is in
    let cells = c.read.new.cells in
    let unread = subst (λ (r : Option Numbers). Spells a.column.now r cells) c.in_err-numbers.was
    c.read.ensures in
    let gone : c.from_residual.result ≡ None = grind (arith, common_steps) in
    rw gone (
    said_none (opcode_of a.name.now) (read_operands a.column.now) c.in-Ok.shape is
    (unread c.in-Ok.shape))

pub slice_bounds-of_shape-end : goal.slice_bounds-of_shape-end
slice_bounds-of_shape-end c =
    let cells = c.read.new.cells in
    let spelt = subst (λ (r : Option Numbers). Spells c.args.column.now r cells) c.in_ok-numbers.was
    c.read.ensures in
    omega (arith, spelt.0, c.requires)

pub slice_bounds-of_shape-end-2 : goal.slice_bounds-of_shape-end-2
slice_bounds-of_shape-end-2 c =
    let cells = c.read.new.cells in
    let spelt = subst (λ (r : Option Numbers). Spells c.args.column.now r cells) c.in_ok-numbers.was
    c.read.ensures in
    sym (length-take-le c.in_ok-numbers.numbers.count cells (omega (arith, spelt.0, c.requires)))

pub returns-in_err-spoken : goal.returns-in_err-spoken
returns-in_err-spoken c =
    let a = c.args in
    let s = c.in-Ok.shape in
    let count = c.in_ok-numbers.numbers.count in
    let minus = c.in_ok-numbers.numbers.minus in
    let cells = c.read.new.cells in
    let is = ap shape_of (sym c.opcode-opcode.ensures) ∙ sym c.operand_shape-shaped.ensures
    ∙ c.in-Ok.is in
    let spelt = subst (λ (r : Option Numbers). Spells a.column.now r cells) c.in_ok-numbers.was
    c.read.ensures in
    let none = spoken_none s minus (take count cells)
    (sym c.in_err-spoken.was ∙ c.of_shape.ensures) in
    let gone : c.from_residual-in_err-spoken.result ≡ None = grind (arith, common_steps) in
    rw gone (
    said_none (opcode_of a.name.now) (read_operands a.column.now) s is (unsaid_column s _ _ spelt.1 none))

pub returns : goal.returns
returns c =
    let a = c.args in
    let s = c.in-Ok.shape in
    let count = c.in_ok-numbers.numbers.count in
    let minus = c.in_ok-numbers.numbers.minus in
    let cells = c.read.new.cells in
    let operand = c.in_ok-spoken.spoken.operand in
    let from = c.in_ok-spoken.spoken.names in
    let is = ap shape_of (sym c.opcode-opcode.ensures) ∙ sym c.operand_shape-shaped.ensures
    ∙ c.in-Ok.is in
    let spelt = subst (λ (r : Option Numbers). Spells a.column.now r cells) c.in_ok-numbers.was
    c.read.ensures in
    let spoken = spoken_some s minus (take count cells) operand from
    (sym c.in_ok-spoken.was ∙ c.of_shape.ensures) in
    let held : length (take count cells) ≡ count = length-take-le count cells
    (omega (arith, spelt.0, c.requires)) in
    let ordered : from ≤ count = omega (arith, spoken.0) in
    record {
      opcode = c.opcode-opcode.ensures;
      ordered = ordered;
      few = spelt.0;
      says =
          said_some (opcode_of a.name.now) (read_operands a.column.now) s is _ _ spelt.1 spoken.1
          ∙ ap (λ (l : List ℕ). Some (said operand l)) (names_part cells from count ordered);
    }
