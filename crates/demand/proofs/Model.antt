-- What each call comes to, as a function: the answer and the world that its contract leaves no choice in
-- (Contracts.antt has the law).
-- Assumes nothing.
use Rattle.std.specs.Prelude.{Some}
use mathlib.Core.List.{[]}
use Prim.Native.Nat.{◌%◌}
use lib.ListN.{length}
use Rattle.op.specs.Chosen.{LoadGlobalCallable, CallBuiltinFunction, CallBuiltinType, CallFunctionKw, CallAttrKw}
use Rattle.op.specs.Opcodes.{RaiseUnboundLocal}
use Rattle.op.specs.declared.Operand.TheVariants as O
use Rattle.builder.specs.declared.Builder.{Builder}
use Rattle.builder.specs.Emission.{load_op, load_operand, store_op, store_operand}
use Rattle.builder.specs.Emission.{Outcome, emit_named, emit_of}
use Rattle.builder.specs.Numbered.{numbered_of}
use Rattle.builder.specs.Forward.{JumpOutcome, emit_jump_of}
use Rattle.builder.specs.Back.{emit_jump_to_of}
use Rattle.builder.specs.Marks.{TargetOutcome, target_of}
use Rattle.builder.specs.Patch.{PatchOutcome, patch_jump_of}
use Rattle.builder.specs.State.{Kept}
use Rattle.builder.specs.Constants.{AddedKept, add_const_of}
use Rattle.builder.specs.Regions.{region_of}
use Rattle.builder.specs.Exceptions.{add_exception_of}
use Rattle.builder.specs.Names.{register_names_of, register_name_of, build_of}
use Rattle.builder.specs.Locations.{with_location}
use Rattle.demand.specs.History.{Given, ok}
use Rattle.demand.specs.Calls.{emit', emit_u8, emit_i8, emit_u8_u8, emit_u16, emit_u16_u16, emit_u16_u8, emit_u16_u8_u8, emit_call_builtin_function, emit_call_builtin_type}
use Rattle.demand.specs.Calls.{emit_call_function_kw, emit_call_attr_kw, emit_raise_unbound_local}
use Rattle.demand.specs.Calls.{emit_load_global_callable, emit_name_op, emit_load_local, emit_store_local}
use Rattle.demand.specs.Calls.{emit_numbered}
use Rattle.demand.specs.Calls.{emit_jump, emit_jump_to, current_jump_target, patch_jump, new_code_region, add_const, add_exception_entry, register_local_names, register_local_name, build}
use Rattle.demand.specs.Calls.{set_location, current_offset, current_position, stack_depth, is_dead, PublicCall}
use Rattle.demand.specs.World.{World, world, given, after, given_jump, after_jump, given_target, after_target}
use Rattle.demand.specs.World.{given_const, after_const}

-- what a call leaves, and its answer
pub record Turn : Type 0 where
  pub left : World
  pub answer : Given

abbrev pub turn : World → Given → Turn
turn w a = record { left = w; answer = a }

-- by the tables that the call is lent to change

-- code and locations
abbrev pub emits : World → Outcome → Turn
emits w x =
    turn
    (world (after x.answer w.state) x.code x.locations w.exceptions w.constants w.names w.marks
    w.starts)
    (given x.answer)

-- code, locations and marks
abbrev pub jumps : World → JumpOutcome → Turn
jumps w x =
    turn
    (world (after_jump x.answer w.state) x.code x.locations w.exceptions w.constants w.names
    x.marks w.starts)
    (given_jump x.answer)

-- marks
abbrev pub targets : World → TargetOutcome → Turn
targets w x =
    turn
    (world (after_target x.answer w.state) w.code w.locations w.exceptions w.constants w.names
    x.marks w.starts)
    (given_target x.answer)

-- code and marks
abbrev pub patches : World → PatchOutcome → Turn
patches w x =
    turn
    (world (after x.answer w.state) x.code w.locations w.exceptions w.constants w.names x.marks
    w.starts)
    (given x.answer)

-- starts
abbrev pub opens : World → Kept → Turn
opens w x =
    turn
    (world (after x.answer w.state) w.code w.locations w.exceptions w.constants w.names w.marks
    x.cells)
    (given x.answer)

-- constants
abbrev pub adds : World → AddedKept → Turn
adds w x =
    turn
    (world (after_const x.answer w.state) w.code w.locations w.exceptions x.cells w.names
    w.marks w.starts)
    (given_const x.answer)

-- exceptions
abbrev pub enters : World → Kept → Turn
enters w x =
    turn
    (world (after x.answer w.state) w.code w.locations x.cells w.constants w.names w.marks
    w.starts)
    (given x.answer)

-- names
abbrev pub registers : World → Kept → Turn
registers w x =
    turn
    (world (after x.answer w.state) w.code w.locations w.exceptions w.constants x.cells w.marks
    w.starts)
    (given x.answer)

-- none
abbrev pub sets : World → Builder → Turn
sets w b = turn (world b w.code w.locations w.exceptions w.constants w.names w.marks w.starts) ok

-- what the definition that the contract cites makes of the state and tables at hand
abbrev pub step : PublicCall → World → Turn
step (emit' k) w = emits w (emit_of w.state k O.None [] w.code w.locations)
step (emit_u8 k a) w = emits w (emit_of w.state k (O.U8 a) [] w.code w.locations)
step (emit_i8 k z f) w = emits w (emit_of w.state k (O.I8 z) [] w.code w.locations)
step (emit_u8_u8 k a b) w = emits w (emit_of w.state k (O.U8U8 a b) [] w.code w.locations)
step (emit_u16 k a) w = emits w (emit_of w.state k (O.U16 a) [] w.code w.locations)
step (emit_u16_u16 k a b) w = emits w (emit_of w.state k (O.U16U16 a b) [] w.code w.locations)
step (emit_u16_u8 k a b) w = emits w (emit_of w.state k (O.U16U8 a b) [] w.code w.locations)
step (emit_u16_u8_u8 k a b c) w = emits w (emit_of w.state k (O.U16U8U8 a b c) [] w.code w.locations)
step (emit_call_builtin_function a n) w =
    emits w (emit_of w.state CallBuiltinFunction (O.U8U8 a n) [] w.code w.locations)
step (emit_call_builtin_type a n) w =
    emits w (emit_of w.state CallBuiltinType (O.U8U8 a n) [] w.code w.locations)
step (emit_call_function_kw p ns) w =
    emits w (emit_of w.state CallFunctionKw (O.CallKw p (length ns % 256)) ns w.code w.locations)
step (emit_call_attr_kw a p ns) w =
    emits w (emit_of w.state CallAttrKw (O.CallAttrKw a p (length ns % 256)) ns w.code w.locations)
step (emit_raise_unbound_local name) w = emits w (emit_named w.state RaiseUnboundLocal name (O.U16 (name % 65536)) [] w.code w.locations)
step (emit_load_global_callable slot name) w = emits w (emit_named w.state LoadGlobalCallable name (O.U16U16 slot (name % 65536)) [] w.code w.locations)
step (emit_name_op k slot name flags) w = emits w (emit_named w.state k name (O.U16U16U8 slot (name % 65536) flags) [] w.code w.locations)
step (emit_load_local slot) w = emits w (emit_of w.state (load_op slot) (load_operand slot) [] w.code w.locations)
step (emit_store_local slot) w =
    emits w (emit_of w.state (store_op slot) (store_operand slot) [] w.code w.locations)
step (emit_numbered call k a b c ns) w = emits w (numbered_of w.state call k a b c ns w.code w.locations)
step (emit_jump k) w = jumps w (emit_jump_of w.state k w.code w.locations w.marks)
step (emit_jump_to k t) w = emits w (emit_jump_to_of w.state k t w.code w.locations w.marks)
step current_jump_target w = targets w (target_of w.state w.marks)
step (patch_jump l) w = patches w (patch_jump_of w.state l w.code w.marks)
step (new_code_region d f) w = opens w (region_of w.state d w.starts)
step (add_const v) w = adds w (add_const_of w.state v w.constants)
step (add_exception_entry start end handler d n kind) w =
    enters w (add_exception_of w.state start end handler d n kind w.exceptions)
step (register_local_names ns) w = registers w (register_names_of w.state ns w.names)
step (register_local_name slot name) w = registers w (register_name_of w.state slot name w.names)
step (build fill) w = registers w (build_of w.state fill w.names w.marks)
step (set_location r f) w = sets w (with_location w.state (Some (record { range = r; focus = f })))
step current_offset w = sets w w.state
step current_position w = sets w w.state
step stack_depth w = sets w w.state
step is_dead w = sets w w.state
