-- What an instruction does to the depth of the stack: op.rs, `stack_effect`, `jump_taken_stack_effect`; R7 to R10.
-- An effect is a number to add, `up`, and a number to take away, `down`; the net effect is `up` - `down`.
-- Assumes nothing.
use Rattle.op.specs.declared.Effect.{Effect}
use Rattle.op.specs.declared.Refusal.{Refusal}
use Rattle.std.specs.Prelude.{Bool, cond, [], ◌∷◌, ℕ, ◌+◌, ◌*◌, ◌/◌, ◌%◌, ◌<◌, eqb, Ok, Err, Some, None, Result, Option, ℤ}
use Rattle.std.proofs.Math.IntN.{sub_ℕ}
use Rattle.base.specs.Tests.{is_in}
use Rattle.op.specs.Opcodes.{Rule, minus3, minus2, minus1, same, plus1, plus2, minus_n, one_minus_n, one_minus_2n, n_minus_one, both, minus_both, one_minus_both, extended, format, assert, assert_failed, match_keys}
use Rattle.op.specs.Opcodes.{Row, op, known, row_of}
use Rattle.op.specs.Opcodes.{Jump, JumpIfTrue, JumpIfFalse, JumpIfTrueOrPop, JumpIfFalseOrPop, ForIter, Raise}
use Rattle.op.specs.Opcodes.{Reraise, ReturnValue, RaiseUnboundLocal, AssertFailed}
use Rattle.op.specs.Shapes.{shape_number, shape_in, operand_shape}
use Rattle.op.specs.declared.Operand.{Operand}
use Rattle.op.specs.declared.Operand.TheVariants as O
use Rattle.op.specs.declared.Refusal.TheVariants.{UnknownOpcode, WrongShape, NotAJump}

-- an effect of two numbers
abbrev pub by : (up down : ℕ) → Effect
by up down = record { up = up; down = down }

-- a row's effect
abbrev pub rule_in : Row → Rule
rule_in (op name shape rule) = rule

-- the last number of an operand, which is its count, flags or mode; 0 where there is none or no effect goes by it
abbrev pub last_of : Operand → ℕ
last_of O.None = 0
last_of (O.U8 a) = a
last_of (O.I8 a) = 0
last_of (O.U16 a) = a
last_of (O.Offset a) = 0
last_of (O.U8U8 a b) = b
last_of (O.U16U8 a b) = b
last_of (O.U16U16 a b) = b
last_of (O.U16U8U8 a b c) = c
last_of (O.CallKw positional names) = names
last_of (O.CallAttrKw attribute positional names) = names
last_of (O.U16U16U8 a b c) = c

-- the number before it: UnpackEx's before, MakeClosure's defaults, a keyword call's positional count; 0 elsewhere
abbrev pub former_of : Operand → ℕ
former_of O.None = 0
former_of (O.U8 a) = 0
former_of (O.I8 a) = 0
former_of (O.U16 a) = 0
former_of (O.Offset a) = 0
former_of (O.U8U8 a b) = a
former_of (O.U16U8 a b) = 0
former_of (O.U16U16 a b) = 0
former_of (O.U16U8U8 a b c) = b
former_of (O.CallKw positional names) = positional
former_of (O.CallAttrKw attribute positional names) = positional
former_of (O.U16U16U8 a b c) = 0

-- R8, "The others go by their operand": a rule over an operand's former and last number
unfoldable pub effect_by : Rule → ℕ → ℕ → Effect
effect_by minus3 m n = by 0 3
effect_by minus2 m n = by 0 2
effect_by minus1 m n = by 0 1
effect_by same m n = by 0 0
effect_by plus1 m n = by 1 0
effect_by plus2 m n = by 2 0
effect_by minus_n m n = by 0 n
effect_by one_minus_n m n = by 1 n
effect_by one_minus_2n m n = by 1 (2 * n)
effect_by n_minus_one m n = by n 1
effect_by both m n = by (m + n) 0
effect_by minus_both m n = by 0 (m + n)
effect_by one_minus_both m n = by 1 (m + n)
effect_by extended m n = by 0 (1 + n % 2)
effect_by format m n = by 0 (n / 4 % 2)
effect_by assert m n = by 0 (1 + n / 16 % 2)
effect_by assert_failed m n = by 0 (2 + n / 16 % 2)
effect_by match_keys m n = cond (eqb n 1) (by 0 1) (by 2 0)

-- 1, then 2: the effect of an opcode with an operand (R7)
unfoldable pub effect_of : ℕ → Operand → Result Effect Refusal
effect_of k o =
    cond (known k)
    (cond (eqb (shape_number (shape_in (row_of k))) (shape_number (operand_shape o)))
    (Ok (effect_by (rule_in (row_of k)) (former_of o) (last_of o)))
    (Err WrongShape))
    (Err UnknownOpcode)

-- 1, or the effect of an opcode by an operand's former and last number (R8)
unfoldable pub effect_from : (k m n : ℕ) → Result Effect Refusal
effect_from k m n = cond (known k) (Ok (effect_by (rule_in (row_of k)) m n)) (Err UnknownOpcode)

-- R8, "The others go by their operand": what a rule's effect is without one
unfoldable pub fixed_by : Rule → Result (Option Effect) Refusal
fixed_by minus3 = Ok (Some (by 0 3))
fixed_by minus2 = Ok (Some (by 0 2))
fixed_by minus1 = Ok (Some (by 0 1))
fixed_by same = Ok (Some (by 0 0))
fixed_by plus1 = Ok (Some (by 1 0))
fixed_by plus2 = Ok (Some (by 2 0))
fixed_by minus_n = Ok None
fixed_by one_minus_n = Ok None
fixed_by one_minus_2n = Ok None
fixed_by n_minus_one = Ok None
fixed_by both = Ok None
fixed_by minus_both = Ok None
fixed_by one_minus_both = Ok None
fixed_by extended = Ok None
fixed_by format = Ok None
fixed_by assert = Ok None
fixed_by assert_failed = Ok None
fixed_by match_keys = Ok None

-- 1, or what an opcode does whatever its operand (R8)
unfoldable pub fixed_of : (k : ℕ) → Result (Option Effect) Refusal
fixed_of k = cond (known k) (fixed_by (rule_in (row_of k))) (Err UnknownOpcode)

-- "A jump has two effects, falling through and taken": the taken effects, refusing 1, then 3 (R9)
unfoldable pub taken_of : ℕ → Result Effect Refusal
taken_of k =
    cond (known k)
    (cond (is_in k (Jump ∷ JumpIfTrueOrPop ∷ JumpIfFalseOrPop ∷ [])) (Ok (by 0 0))
    (cond (is_in k (JumpIfTrue ∷ JumpIfFalse ∷ ForIter ∷ [])) (Ok (by 0 1))
    (Err NotAJump)))
    (Err UnknownOpcode)

-- the two numbers of an effect fit the Rust's i32
abbrev pub Small : Result Effect Refusal → Type 0
Small (Ok effect) = (effect.up < 2147483648) × (effect.down < 2147483648)
Small (Err r) = Unit {0}

-- an effect as the Rust's signed number (R8)
abbrev pub net_of : Result Effect Refusal → Result ℤ Refusal
net_of (Ok effect) = Ok (sub_ℕ effect.up effect.down)
net_of (Err r) = Err r

-- "Six opcodes make the code behind them dead" (R10)
unfoldable pub dead_maker : ℕ → Bool
dead_maker k = is_in k (ReturnValue ∷ Raise ∷ Reraise ∷ RaiseUnboundLocal ∷ AssertFailed ∷ Jump ∷ [])

-- what is behind an opcode, or 1
abbrev pub deadness_of : ℕ → Result Bool Refusal
deadness_of k = cond (known k) (Ok (dead_maker k)) (Err UnknownOpcode)
