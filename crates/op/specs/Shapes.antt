-- The shapes of operands: op.rs, `OperandShape`, `operand_shape`, `Operand::shape`; R3, R4.
-- Assumes nothing.
use Rattle.op.specs.declared.Refusal.{Refusal}
use Rattle.std.specs.Prelude.{cond, ℕ, ◌+◌, ◌*◌, Ok, Err, Result, ◌≡◌, ◌<◌, MatchResult}
use Rattle.op.specs.declared.shapes.NoShape.{NoShape}
use Rattle.op.specs.Opcodes.{Row, op, known, row_of}
use Rattle.op.specs.declared.Operand.{Operand}
use Rattle.op.specs.declared.Operand.TheVariants as O
use Rattle.op.specs.declared.Refusal.TheVariants.{UnknownOpcode}
use Rattle.op.specs.declared.Shape.{Shape}
use Rattle.op.specs.declared.Shape.TheVariants as S

-- op.rs, `enum OperandShape`: the shapes' numbers (R3)
abbrev pub shape_number : Shape → ℕ
shape_number S.None = 0
shape_number S.U8 = 1
shape_number S.I8 = 2
shape_number S.U16 = 3
shape_number S.Offset = 4
shape_number S.U8U8 = 5
shape_number S.U16U8 = 6
shape_number S.U16U16 = 7
shape_number S.U16U8U8 = 8
shape_number S.CallKw = 9
shape_number S.CallAttrKw = 10
shape_number S.U16U16U8 = 11

-- a number and the shape whose number it is, or an error with a number that no shape has
abbrev pub Numbers : ℕ → Result Shape NoShape → Type 0
Numbers n r = MatchResult r (λ shape. shape_number shape ≡ n) (λ e. (e.0 ≡ n) × (11 < n))

-- a row's shape
abbrev pub shape_in : Row → Shape
shape_in (op name shape rule) = shape

-- op.rs, `operand_shape`: an opcode's shape, or 1 (R2)
unfoldable pub shape_of : ℕ → Result Shape Refusal
shape_of k = cond (known k) (Ok (shape_in (row_of k))) (Err UnknownOpcode)

-- op.rs, `Operand::shape`: the shape of an operand (R3)
abbrev pub operand_shape : Operand → Shape
operand_shape O.None = S.None
operand_shape (O.U8 a) = S.U8
operand_shape (O.I8 a) = S.I8
operand_shape (O.U16 a) = S.U16
operand_shape (O.Offset a) = S.Offset
operand_shape (O.U8U8 a b) = S.U8U8
operand_shape (O.U16U8 a b) = S.U16U8
operand_shape (O.U16U16 a b) = S.U16U16
operand_shape (O.U16U8U8 a b c) = S.U16U8U8
operand_shape (O.CallKw positional names) = S.CallKw
operand_shape (O.CallAttrKw attribute positional names) = S.CallAttrKw
operand_shape (O.U16U16U8 a b c) = S.U16U16U8

-- the number of an opcode's shape (R3); 12 stands for it where there is no such opcode
unfoldable pub shape_no : ℕ → ℕ
shape_no k = cond (known k) (shape_number (shape_in (row_of k))) 12

-- R4, with n keyword names
unfoldable pub size_of : Shape → ℕ → ℕ
size_of S.None n = 1
size_of S.U8 n = 2
size_of S.I8 n = 2
size_of S.U16 n = 3
size_of S.Offset n = 3
size_of S.U8U8 n = 3
size_of S.U16U8 n = 4
size_of S.U16U16 n = 5
size_of S.U16U8U8 n = 5
size_of S.CallKw n = 3 + 2 * n
size_of S.CallAttrKw n = 5 + 2 * n
size_of S.U16U16U8 n = 6
