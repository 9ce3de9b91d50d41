-- Each number of `emit_numbered` is the call that it stands for: at numbers that fit their fields, it leaves exactly
-- what that call's own promise names.
-- Assumes nothing.
use Rattle.std.specs.Prelude.{◌≡◌, List, [], ℕ, ◌%◌, ◌<◌, length}
use Rattle.op.specs.Chosen.{CallAttrKw, CallBuiltinFunction, CallBuiltinType, CallFunctionKw, LoadGlobalCallable}
use Rattle.op.specs.Opcodes.{RaiseUnboundLocal}
use Rattle.op.specs.declared.Operand.{Operand}
use Rattle.op.specs.declared.Operand.TheVariants as O
use Rattle.code.specs.Bytes.{signed}
use Rattle.builder.specs.declared.Builder.{Builder}
use Rattle.builder.specs.Emission.{Outcome, emit_named, load_op, load_operand, store_op, store_operand}
use Rattle.builder.specs.Numbered.{numbered_of}

-- a state, the numbers that are given, and the lent tables
pub record Given : Type 0 where
  pub builder : Builder
  pub opcode : ℕ
  pub a : ℕ
  pub b : ℕ
  pub c : ℕ
  pub names : List ℕ
  pub code : List ℕ
  pub locations : List ℕ

-- what a number leaves, without keyword names and with them
abbrev pub by : (call : ℕ) → Given → Outcome
by call g = numbered_of g.builder call g.opcode g.a g.b g.c [] g.code g.locations

abbrev pub by_naming : (call : ℕ) → Given → Outcome
by_naming call g = numbered_of g.builder call g.opcode g.a g.b g.c g.names g.code g.locations

-- what the calls' own promises name: without a name, with one, and with keyword names
abbrev pub own : (opcode : ℕ) (operand : Operand) → Given → Outcome
own opcode operand g = emit_named g.builder opcode 0 operand [] g.code g.locations

abbrev pub own_named : (opcode : ℕ) (operand : Operand) → Given → Outcome
own_named opcode operand g = emit_named g.builder opcode g.b operand [] g.code g.locations

abbrev pub own_naming : (opcode : ℕ) (operand : Operand) → Given → Outcome
own_naming opcode operand g = emit_named g.builder opcode 0 operand g.names g.code g.locations

pub record EachCall (g : Given) : Type 0 where
  pub emit : by 0 g ≡ own g.opcode O.None g
  pub emit_u8 : g.a < 256 → by 1 g ≡ own g.opcode (O.U8 g.a) g
  pub emit_i8 : g.a < 256 → by 2 g ≡ own g.opcode (O.I8 (signed 256 g.a)) g
  pub emit_u8_u8 : g.a < 256 → g.b < 256 → by 3 g ≡ own g.opcode (O.U8U8 g.a g.b) g
  pub emit_u16 : by 4 g ≡ own g.opcode (O.U16 g.a) g
  pub emit_u16_u16 : g.b < 65536 → by 5 g ≡ own g.opcode (O.U16U16 g.a g.b) g
  pub emit_u16_u8 : g.b < 256 → by 6 g ≡ own g.opcode (O.U16U8 g.a g.b) g
  pub emit_u16_u8_u8 : g.b < 256 → by 7 g ≡ own g.opcode (O.U16U8U8 g.a g.b g.c) g
  pub emit_call_builtin_function : g.a < 256 → g.b < 256 → by 8 g ≡ own CallBuiltinFunction (O.U8U8 g.a g.b) g
  pub emit_call_builtin_type : g.a < 256 → g.b < 256 → by 9 g ≡ own CallBuiltinType (O.U8U8 g.a g.b) g
  pub emit_call_function_kw : g.a < 256
      → by_naming 10 g ≡ own_naming CallFunctionKw (O.CallKw g.a (length g.names % 256)) g
  pub emit_call_attr_kw : g.b < 256
      → by_naming 11 g ≡ own_naming CallAttrKw (O.CallAttrKw g.a g.b (length g.names % 256)) g
  pub emit_raise_unbound_local : by 12 g ≡ own_named RaiseUnboundLocal (O.U16 (g.b % 65536)) g
  pub emit_load_global_callable : by 13 g ≡ own_named LoadGlobalCallable (O.U16U16 g.a (g.b % 65536)) g
  pub emit_name_op : by 14 g ≡ own_named g.opcode (O.U16U16U8 g.a (g.b % 65536) g.c) g
  pub emit_load_local : by 15 g ≡ own (load_op g.a) (load_operand g.a) g
  pub emit_store_local : by 16 g ≡ own (store_op g.a) (store_operand g.a) g

-- R65
abbrev pub NumbersAreCalls : Type 0
NumbersAreCalls = (g : Given) → EachCall g
