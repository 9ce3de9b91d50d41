-- The emitting calls without a jump by number, on numbers as C gives them: the instruction that each comes to.
-- Assumes nothing.
use Rattle.builder.specs.declared.numbered.Instruction.{Instruction}
use Rattle.std.specs.Prelude.{cond, List, [], ◌∷◌, ℕ, ◌%◌, ltb, get_or, length, Err, Some, None, Option}
use Rattle.op.specs.Chosen.{CallAttrKw, CallBuiltinFunction, CallBuiltinType, CallFunctionKw, LoadGlobalCallable}
use Rattle.op.specs.Opcodes.{RaiseUnboundLocal}
use Rattle.op.specs.declared.Operand.{Operand}
use Rattle.op.specs.declared.Operand.TheVariants as O
use Rattle.op.specs.declared.Refusal.TheVariants.{WrongShape}
use Rattle.code.specs.Bytes.{signed}
use Rattle.builder.specs.declared.Builder.{Builder}
use Rattle.builder.specs.Emission.{Outcome, emit_named, load_op, load_operand, outcome, store_op, store_operand}

-- an instruction whose operand holds no name
abbrev pub plain : (opcode : ℕ) (operand : Operand) → Option Instruction
plain opcode operand = Some (record { opcode = opcode; name = 0; operand = operand })

-- where a number is below a limit
abbrev pub below : (limit number : ℕ) → Option Instruction → Option Instruction
below limit number instruction = cond (ltb number limit) instruction None

abbrev pub pair_of : (opcode a b : ℕ) → Option Instruction
pair_of opcode a b = below 256 a (below 256 b (plain opcode (O.U8U8 a b)))

abbrev pub load_of : (slot : ℕ) → Option Instruction
load_of slot = plain (load_op slot) (load_operand slot)

abbrev pub store_of : (slot : ℕ) → Option Instruction
store_of slot = plain (store_op slot) (store_operand slot)

-- the calls, from 0 on; `names` is how many keyword names there are, modulo 256
abbrev pub instructions : (opcode a b c names : ℕ) → List (Option Instruction)
instructions opcode a b c names =
    plain opcode O.None ∷  -- 0 emit
    below 256 a (plain opcode (O.U8 a)) ∷  -- 1 emit_u8
    below 256 a (plain opcode (O.I8 (signed 256 a))) ∷  -- 2 emit_i8
    pair_of opcode a b ∷  -- 3 emit_u8_u8
    plain opcode (O.U16 a) ∷  -- 4 emit_u16
    below 65536 b (plain opcode (O.U16U16 a b)) ∷  -- 5 emit_u16_u16
    below 256 b (plain opcode (O.U16U8 a b)) ∷  -- 6 emit_u16_u8
    below 256 b (plain opcode (O.U16U8U8 a b c)) ∷  -- 7 emit_u16_u8_u8
    pair_of CallBuiltinFunction a b ∷  -- 8 emit_call_builtin_function
    pair_of CallBuiltinType a b ∷  -- 9 emit_call_builtin_type
    below 256 a (plain CallFunctionKw (O.CallKw a names)) ∷  -- 10 emit_call_function_kw
    below 256 b (plain CallAttrKw (O.CallAttrKw a b names)) ∷  -- 11 emit_call_attr_kw
    Some (record { opcode = RaiseUnboundLocal; name = b; operand = (O.U16 (b % 65536)) }) ∷  -- 12 emit_raise_unbound_local
    Some (record { opcode = LoadGlobalCallable; name = b; operand = (O.U16U16 a (b % 65536)) }) ∷  -- 13 emit_load_global_callable
    Some (record { opcode = opcode; name = b; operand = (O.U16U16U8 a (b % 65536) c) }) ∷  -- 14 emit_name_op
    load_of a ∷  -- 15 emit_load_local
    store_of a ∷ []  -- 16 emit_store_local

-- the instruction of a call's number; nothing past the last (R65)
unfoldable pub instruction_of : (call opcode a b c names : ℕ) → Option Instruction
instruction_of call opcode a b c names = get_or (instructions opcode a b c names) call None

-- 2 where there is none, else the instruction emitted
abbrev pub emit_instruction : Option Instruction → (builder : Builder) (names code locations : List ℕ) → Outcome
emit_instruction None builder names code locations = outcome (Err WrongShape) code locations
emit_instruction (Some instruction) builder names code locations =
    emit_named builder instruction.opcode instruction.name instruction.operand names code locations

-- R65
unfoldable pub numbered_of : (builder : Builder) (call opcode a b c : ℕ) (names code locations : List ℕ) → Outcome
numbered_of builder call opcode a b c names code locations =
    emit_instruction (instruction_of call opcode a b c (length names % 256)) builder names code locations
