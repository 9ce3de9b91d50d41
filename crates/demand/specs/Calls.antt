-- The public calls of the builder with their arguments, and what the history takes them for.
-- Assumes nothing.
use Rattle.std.specs.Prelude.{cond, List, [], ◌∷◌, ℕ, ◌<◌, ◌%◌, leb, ltb, eqb, ℤ, get_or, length, Option}
use Rattle.std.specs.Int.Signed.{mag}
use Rattle.op.specs.Chosen.{LoadLocal0, LoadLocal1, LoadLocal2, LoadLocal3, LoadLocal, LoadLocalW, StoreLocal, StoreLocalW}
use Rattle.op.specs.Chosen.{LoadGlobalCallable, CallBuiltinFunction, CallBuiltinType, CallFunctionKw, CallAttrKw}
use Rattle.op.specs.Opcodes.{RaiseUnboundLocal}
use Rattle.op.specs.declared.Operand.TheVariants as O
use Rattle.code.specs.Bytes.{signed}
use Rattle.code.specs.declared.CodeRange.{CodeRange}
use Rattle.code.specs.declared.HandlerKind.{HandlerKind}
use Rattle.builder.specs.declared.JumpLabel.{JumpLabel}
use Rattle.builder.specs.declared.JumpTarget.{JumpTarget}
use Rattle.demand.specs.History.{Call, emit, emit_jump_call, emit_jump_to_call, patch_jump_call, jump_target_call, new_region, other}

-- the ranges of two types of arguments

abbrev pub I8 : ℤ → Type 0
I8 z = mag z < 128

abbrev pub U16 : ℕ → Type 0
U16 n = n < 65536

-- the public calls, but for `new`, with their arguments in the order of the Rust, and the one by number. Two carry
-- the range that their type gives: a signed operand and a region's depth. Of the others the demand holds for any
-- numbers
pub data PublicCall : Type 0 where
  emit' : (opcode : ℕ) → PublicCall
  emit_u8 : (opcode operand : ℕ) → PublicCall
  emit_i8 : (opcode : ℕ) (operand : ℤ) → I8 operand → PublicCall
  emit_u8_u8 : (opcode operand1 operand2 : ℕ) → PublicCall
  emit_u16 : (opcode operand : ℕ) → PublicCall
  emit_u16_u16 : (opcode operand1 operand2 : ℕ) → PublicCall
  emit_u16_u8 : (opcode operand1 operand2 : ℕ) → PublicCall
  emit_u16_u8_u8 : (opcode operand1 operand2 operand3 : ℕ) → PublicCall
  emit_call_builtin_function : (builtin count : ℕ) → PublicCall
  emit_call_builtin_type : (builtin count : ℕ) → PublicCall
  emit_call_function_kw : (positional : ℕ) (kwnames : List ℕ) → PublicCall
  emit_call_attr_kw : (attribute positional : ℕ) (kwnames : List ℕ) → PublicCall
  emit_raise_unbound_local : (name : ℕ) → PublicCall
  emit_load_global_callable : (slot name : ℕ) → PublicCall
  emit_name_op : (opcode slot name flags : ℕ) → PublicCall
  emit_load_local : (slot : ℕ) → PublicCall
  emit_store_local : (slot : ℕ) → PublicCall
  emit_numbered : (call opcode a b c : ℕ) (kwnames : List ℕ) → PublicCall
  emit_jump : (opcode : ℕ) → PublicCall
  emit_jump_to : (opcode : ℕ) (target : JumpTarget) → PublicCall
  current_jump_target : PublicCall
  patch_jump : (label : JumpLabel) → PublicCall
  new_code_region : (depth : ℕ) → U16 depth → PublicCall
  add_const : (value : ℕ) → PublicCall
  add_exception_entry : (start end handler depth count : ℕ) (kind : HandlerKind) → PublicCall
  register_local_names : (names : List ℕ) → PublicCall
  register_local_name : (slot name : ℕ) → PublicCall
  build : (fill : ℕ) → PublicCall
  set_location : (range : CodeRange) (focus : Option CodeRange) → PublicCall
  current_offset : PublicCall
  current_position : PublicCall
  stack_depth : PublicCall
  is_dead : PublicCall

-- builder.rs, `emit_load_local`: slots 0 to 3 have opcodes of their own, then a byte, then a word
abbrev pub loads : ℕ → Call
loads slot =
    cond (eqb slot 0) (emit LoadLocal0 O.None [])
    (cond (eqb slot 1) (emit LoadLocal1 O.None [])
    (cond (eqb slot 2) (emit LoadLocal2 O.None [])
    (cond (eqb slot 3) (emit LoadLocal3 O.None [])
    (cond (leb slot 255) (emit LoadLocal (O.U8 slot) [])
    (emit LoadLocalW (O.U16 slot) [])))))

-- builder.rs, `emit_store_local`: a byte, then a word
abbrev pub stores : ℕ → Call
stores slot = cond (leb slot 255) (emit StoreLocal (O.U8 slot) []) (emit StoreLocalW (O.U16 slot) [])

-- the calls by number, from 0 on, on numbers as C gives them and `n` keyword names; where one is too large for its
-- field nothing is emitted

abbrev pub fitting : (limit number : ℕ) → Call → Call
fitting limit number call = cond (ltb number limit) call other

abbrev pub by_number : (opcode a b c n : ℕ) → List Call
by_number k a b c n =
    emit k O.None [] ∷  -- 0 emit
    fitting 256 a (emit k (O.U8 a) []) ∷  -- 1 emit_u8
    fitting 256 a (emit k (O.I8 (signed 256 a)) []) ∷  -- 2 emit_i8
    fitting 256 a (fitting 256 b (emit k (O.U8U8 a b) [])) ∷  -- 3 emit_u8_u8
    emit k (O.U16 a) [] ∷  -- 4 emit_u16
    fitting 65536 b (emit k (O.U16U16 a b) []) ∷  -- 5 emit_u16_u16
    fitting 256 b (emit k (O.U16U8 a b) []) ∷  -- 6 emit_u16_u8
    fitting 256 b (emit k (O.U16U8U8 a b c) []) ∷  -- 7 emit_u16_u8_u8
    fitting 256 a (fitting 256 b (emit CallBuiltinFunction (O.U8U8 a b) [])) ∷  -- 8 emit_call_builtin_function
    fitting 256 a (fitting 256 b (emit CallBuiltinType (O.U8U8 a b) [])) ∷  -- 9 emit_call_builtin_type
    fitting 256 a (emit CallFunctionKw (O.CallKw a n) []) ∷  -- 10 emit_call_function_kw
    fitting 256 b (emit CallAttrKw (O.CallAttrKw a b n) []) ∷  -- 11 emit_call_attr_kw
    emit RaiseUnboundLocal (O.U16 (b % 65536)) [] ∷  -- 12 emit_raise_unbound_local
    emit LoadGlobalCallable (O.U16U16 a (b % 65536)) [] ∷  -- 13 emit_load_global_callable
    emit k (O.U16U16U8 a (b % 65536) c) [] ∷  -- 14 emit_name_op
    loads a ∷  -- 15 emit_load_local
    stores a ∷ []  -- 16 emit_store_local

-- the same call with the keyword names that are lent
abbrev pub naming : List ℕ → Call → Call
naming ns (emit k o none) = emit k o ns
naming ns (emit_jump_call k) = emit_jump_call k
naming ns (emit_jump_to_call k t) = emit_jump_to_call k t
naming ns (patch_jump_call l) = patch_jump_call l
naming ns jump_target_call = jump_target_call
naming ns (new_region d) = new_region d
naming ns other = other

-- what the history takes each call for: written apart from the builder's definitions, so that the two are held
-- together by proof
abbrev pub kind_of : PublicCall → Call
kind_of (emit' k) = emit k O.None []
kind_of (emit_u8 k a) = emit k (O.U8 a) []
kind_of (emit_i8 k z f) = emit k (O.I8 z) []
kind_of (emit_u8_u8 k a b) = emit k (O.U8U8 a b) []
kind_of (emit_u16 k a) = emit k (O.U16 a) []
kind_of (emit_u16_u16 k a b) = emit k (O.U16U16 a b) []
kind_of (emit_u16_u8 k a b) = emit k (O.U16U8 a b) []
kind_of (emit_u16_u8_u8 k a b c) = emit k (O.U16U8U8 a b c) []
kind_of (emit_call_builtin_function a n) = emit CallBuiltinFunction (O.U8U8 a n) []
kind_of (emit_call_builtin_type a n) = emit CallBuiltinType (O.U8U8 a n) []
kind_of (emit_call_function_kw p ns) = emit CallFunctionKw (O.CallKw p (length ns % 256)) ns
kind_of (emit_call_attr_kw a p ns) = emit CallAttrKw (O.CallAttrKw a p (length ns % 256)) ns
kind_of (emit_raise_unbound_local name) = emit RaiseUnboundLocal (O.U16 (name % 65536)) []
kind_of (emit_load_global_callable slot name) = emit LoadGlobalCallable (O.U16U16 slot (name % 65536)) []
kind_of (emit_name_op k slot name flags) = emit k (O.U16U16U8 slot (name % 65536) flags) []
kind_of (emit_load_local slot) = loads slot
kind_of (emit_store_local slot) = stores slot
kind_of (emit_numbered call k a b c ns) = naming ns (get_or (by_number k a b c (length ns % 256)) call other)
kind_of (emit_jump k) = emit_jump_call k
kind_of (emit_jump_to k t) = emit_jump_to_call k t
kind_of current_jump_target = jump_target_call
kind_of (patch_jump l) = patch_jump_call l
kind_of (new_code_region d f) = new_region d
kind_of (add_const v) = other
kind_of (add_exception_entry start end handler d n kind) = other
kind_of (register_local_names ns) = other
kind_of (register_local_name slot name) = other
kind_of (build fill) = other
kind_of (set_location r f) = other
kind_of current_offset = other
kind_of current_position = other
kind_of stack_depth = other
kind_of is_dead = other
