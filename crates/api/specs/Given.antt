-- An operand and a comparison given as numbers.
-- Assumes nothing.
use Rattle.op.specs.declared.CmpOperator.{CmpOperator}
use Rattle.op.specs.declared.Effect.{Effect}
use Rattle.op.specs.declared.Operand.{Operand}
use Rattle.std.specs.Prelude.{cond, List, [], ◌∷◌, ℕ, ltb, get_or, Some, None, Option, Err, Result}
use Rattle.op.specs.Depths.{after_of}
use Rattle.op.specs.Effects.{effect_of}
use Rattle.op.specs.Flags.{comparison_number, flags_of}
use Rattle.op.specs.Opcodes.{known}
use Rattle.op.specs.declared.CmpOperator.TheVariants.{Eq, NotEq, Lt, LtE, Gt, GtE, Is, IsNot, In, NotIn}
use Rattle.op.specs.declared.Operand.TheVariants as O
use Rattle.op.specs.declared.Refusal.{Refusal}
use Rattle.op.specs.declared.Refusal.TheVariants.{UnknownOpcode, WrongShape}
use Rattle.code.specs.Bytes.{signed}

-- an operand's number that has to fit a byte
abbrev pub byte : ℕ → Option Operand → Option Operand
byte x o = cond (ltb x 256) o None

-- the operands of the twelve shapes with the values a, b, c and so many names; nothing where a value is too large for
-- its field
abbrev pub operands : ℕ → ℕ → ℕ → ℕ → List (Option Operand)
operands a b c names =
    Some O.None ∷
    byte a (Some (O.U8 a)) ∷
    byte a (Some (O.I8 (signed 256 a))) ∷
    Some (O.U16 a) ∷
    Some (O.Offset (signed 65536 a)) ∷
    byte a (byte b (Some (O.U8U8 a b))) ∷
    byte b (Some (O.U16U8 a b)) ∷
    Some (O.U16U16 a b) ∷
    byte b (Some (O.U16U8U8 a b c)) ∷
    byte a (Some (O.CallKw a names)) ∷
    byte b (Some (O.CallAttrKw a b names)) ∷
    Some (O.U16U16U8 a b c) ∷ []

-- the operand of a shape's number
unfoldable pub given_of : ℕ → ℕ → ℕ → ℕ → ℕ → Option Operand
given_of shape a b c names = get_or (operands a b c names) shape None

-- what is refused where there is no operand: 1, then 2
abbrev pub unshaped : ℕ → Refusal
unshaped k = cond (known k) WrongShape UnknownOpcode

-- the effect with a given operand
abbrev pub effect_given : ℕ → Option Operand → Result Effect Refusal
effect_given k (Some o) = effect_of k o
effect_given k None = Err (unshaped k)

-- the depth after falling through with a given operand
abbrev pub after_given : ℕ → ℕ → Option Operand → Result ℕ Refusal
after_given d k (Some o) = after_of d k o
after_given d k None = Err (unshaped k)

-- the flags bytes of the comparisons in the order of their numbers, then of none
abbrev pub flag_bytes : List ℕ
flag_bytes =
    flags_of (Some Eq) ∷ flags_of (Some NotEq) ∷ flags_of (Some Lt) ∷ flags_of (Some LtE) ∷ flags_of (Some Gt) ∷
    flags_of (Some GtE) ∷ flags_of (Some Is) ∷ flags_of (Some IsNot) ∷ flags_of (Some In) ∷ flags_of (Some NotIn) ∷
    flags_of None ∷ []

-- the flags byte of a comparison's number, 10 for none; 0xFF for any other number
unfoldable pub flags_given : ℕ → ℕ
flags_given n = get_or flag_bytes n 255

-- a decoded byte: the comparison's number, 10 for none, 11 for an invalid byte
abbrev pub flags_answer : Option (Option CmpOperator) → ℕ
flags_answer (Some None) = 10
flags_answer (Some (Some operator)) = comparison_number operator
flags_answer None = 11
