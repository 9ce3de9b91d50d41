-- A refused builder call changes neither state nor tables: specs/Refused.antt has the statements.
-- Assumes nothing.
use Rattle.builder.specs.declared.numbered.Instruction.{Instruction}
use Rattle.builder.specs.declared.JumpTarget.{JumpTarget}
use Rattle.builder.specs.declared.JumpLabel.{JumpLabel}
use Rattle.builder.specs.declared.Builder.{Builder}
use Rattle.std.specs.Prelude.{Ok, Err, Some, None, Result, Option}
use mathlib.Core.Path.{◌≡◌, refl, sym, ap, ◌∙◌}
use mathlib.Core.List.{List, []}
use Prim.Native.Nat.{ℕ, ◌%◌}
use lib.ListN.{length}
use Rattle.base.proofs.Bools.{clash}
use Rattle.op.specs.Chosen.{LoadGlobalCallable, CallBuiltinFunction, CallBuiltinType, CallFunctionKw, CallAttrKw}
use Rattle.op.specs.Opcodes.{RaiseUnboundLocal}
use Rattle.op.specs.declared.Operand.{Operand}
use Rattle.op.specs.declared.Operand.TheVariants as O
use Rattle.op.specs.declared.Refusal.{Refusal}
use Rattle.builder.specs.Emission.{load_op, load_operand, store_op, store_operand}
use Rattle.builder.specs.Emission.{Outcome, emit_named}
use Rattle.builder.specs.Numbered.{emit_instruction, instruction_of, numbered_of}
use Rattle.builder.specs.Forward.{emit_jump_of}
use Rattle.builder.specs.Back.{emit_jump_to_of}
use Rattle.builder.specs.Marks.{target_of}
use Rattle.builder.specs.Patch.{patch_jump_of}
use Rattle.builder.specs.State.{Kept}
use Rattle.builder.specs.Regions.{new_of, region_of}
use Rattle.builder.specs.Constants.{add_const_of}
use Rattle.builder.specs.Exceptions.{add_exception_of}
use Rattle.builder.specs.Names.{register_names_of, register_name_of, build_of}
use Rattle.demand.specs.History.{no}
use Rattle.demand.specs.Calls.{emit', emit_u8, emit_i8, emit_u8_u8, emit_u16, emit_u16_u16, emit_u16_u8, emit_u16_u8_u8, emit_call_builtin_function, emit_call_builtin_type}
use Rattle.demand.specs.Calls.{emit_call_function_kw, emit_call_attr_kw, emit_raise_unbound_local}
use Rattle.demand.specs.Calls.{emit_load_global_callable, emit_name_op, emit_load_local, emit_store_local}
use Rattle.demand.specs.Calls.{emit_numbered}
use Rattle.demand.specs.Calls.{emit_jump, emit_jump_to, current_jump_target, patch_jump, new_code_region, add_const, add_exception_entry, register_local_names, register_local_name, build}
use Rattle.demand.specs.Calls.{set_location, current_offset, current_position, stack_depth, is_dead}
use Rattle.demand.specs.Calls.{PublicCall}
use Rattle.demand.specs.World.{World, given, given_jump, given_target, given_const}
use Rattle.demand.specs.Refused.{RefusedSame, NewRefused}
use Rattle.demand.proofs.Model.{Turn, emits, step}
use Rattle.demand.proofs.Contracts.{made_step}
use Rattle.demand.proofs.Numbering.{numbered_is}
use Rattle.demand.proofs.Keeping.{emit_refused, jump_refused, to_refused, patch_refused, target_refused}
use Rattle.demand.proofs.Keeping.{region_refused, exception_refused, names_refused, name_refused, build_refused}
use Rattle.demand.proofs.Keeping.{const_refused}
use Rattle.demand.proofs.Keeping.{new_kept}

module _ (r : Refusal) where
  by_answer : (a : Result Builder Refusal) → given a ≡ no r → a ≡ Err r
  by_answer (Ok b) e = clash cc
  by_answer (Err q) e = cc

  by_jump : (a : Result (Builder × JumpLabel) Refusal) → given_jump a ≡ no r → a ≡ Err r
  by_jump (Ok (b, l)) e = clash cc
  by_jump (Err q) e = cc

  by_target : (a : Result (Builder × JumpTarget) Refusal) → given_target a ≡ no r → a ≡ Err r
  by_target (Ok (b, l)) e = clash cc
  by_target (Err q) e = cc

  by_const : (a : Result (Builder × ℕ) Refusal) → given_const a ≡ no r → a ≡ Err r
  by_const (Ok (b, i)) e = clash cc
  by_const (Err q) e = cc

  module _ (w : World) where
    emit_same : (x : Outcome) → given x.answer ≡ no r
        → (x.answer ≡ Err r → (x.code ≡ w.code) × (x.locations ≡ w.locations)) → (emits w x).left ≡ w
    emit_same x e f = let a = by_answer x.answer e in rw (a, (f a).0, (f a).1) refl

    emission_same : (k name : ℕ) (o : Operand) (ns : List ℕ)
        → given (emit_named w.state k name o ns w.code w.locations).answer ≡ no r
        → (emits w (emit_named w.state k name o ns w.code w.locations)).left ≡ w
    emission_same k name o ns e = emit_same (emit_named w.state k name o ns w.code w.locations) e
        (emit_refused w.state r k name o ns w.code w.locations)

    numbered_same : (ns : List ℕ) (i : Option Instruction)
        → given (emit_instruction i w.state ns w.code w.locations).answer ≡ no r
        → (emits w (emit_instruction i w.state ns w.code w.locations)).left ≡ w
    numbered_same ns None e = refl
    numbered_same ns (Some i) e = emission_same i.opcode i.name i.operand ns e

    step_same : (c : PublicCall) → (step c w).answer ≡ no r → (step c w).left ≡ w
    step_same (emit' k) e = emission_same k 0 O.None [] e
    step_same (emit_u8 k a) e = emission_same k 0 (O.U8 a) [] e
    step_same (emit_i8 k z f) e = emission_same k 0 (O.I8 z) [] e
    step_same (emit_u8_u8 k a b) e = emission_same k 0 (O.U8U8 a b) [] e
    step_same (emit_u16 k a) e = emission_same k 0 (O.U16 a) [] e
    step_same (emit_u16_u16 k a b) e = emission_same k 0 (O.U16U16 a b) [] e
    step_same (emit_u16_u8 k a b) e = emission_same k 0 (O.U16U8 a b) [] e
    step_same (emit_u16_u8_u8 k a b c) e = emission_same k 0 (O.U16U8U8 a b c) [] e
    step_same (emit_call_builtin_function a n) e = emission_same CallBuiltinFunction 0 (O.U8U8 a n) [] e
    step_same (emit_call_builtin_type a n) e = emission_same CallBuiltinType 0 (O.U8U8 a n) [] e
    step_same (emit_call_function_kw p ns) e = emission_same CallFunctionKw 0 (O.CallKw p (length ns % 256)) ns e
    step_same (emit_call_attr_kw a p ns) e = emission_same CallAttrKw 0 (O.CallAttrKw a p (length ns % 256)) ns e
    step_same (emit_raise_unbound_local name) e = emission_same RaiseUnboundLocal name (O.U16 (name % 65536)) [] e
    step_same (emit_load_global_callable slot name) e = emission_same LoadGlobalCallable name (O.U16U16 slot (name % 65536)) [] e
    step_same (emit_name_op k slot name flags) e = emission_same k name (O.U16U16U8 slot (name % 65536) flags) [] e
    step_same (emit_load_local slot) e = emission_same (load_op slot) 0 (load_operand slot) [] e
    step_same (emit_store_local slot) e = emission_same (store_op slot) 0 (store_operand slot) [] e
    step_same (emit_numbered call k a b c ns) e =
        let same : numbered_of w.state call k a b c ns w.code w.locations
        ≡ emit_instruction (instruction_of call k a b c (length ns % 256)) w.state ns w.code w.locations
        = numbered_is w.state call k a b c ns w.code w.locations in
        rw same (numbered_same ns (instruction_of call k a b c (length ns % 256)) (rw same at e))
    step_same (emit_jump k) e =
        let a = by_jump (emit_jump_of w.state k w.code w.locations w.marks).answer e in
        let q = jump_refused w.state r k w.code w.locations w.marks a in
        rw (a, q.0, q.1, q.2) refl
    step_same (emit_jump_to k t) e = emit_same (emit_jump_to_of w.state k t w.code w.locations w.marks) e
        (to_refused w.state r k w.code w.locations w.marks t)
    step_same current_jump_target e =
        let a = by_target (target_of w.state w.marks).answer e in
        rw (a, target_refused w.state r w.marks a) refl
    step_same (patch_jump l) e =
        let a = by_answer (patch_jump_of w.state l w.code w.marks).answer e in
        let q = patch_refused w.state r l w.code w.marks a in
        rw (a, q.0, q.1) refl
    step_same (new_code_region d f) e =
        let a = by_answer (region_of w.state d w.starts).answer e in
        rw (a, region_refused r w.starts w.state d a) refl
    step_same (add_const v) e =
        let a = by_const (add_const_of w.state v w.constants).answer e in
        rw (a, const_refused w.state v w.constants r a) refl
    step_same (add_exception_entry start end handler d n kind) e =
        let a = by_answer (add_exception_of w.state start end handler d n kind w.exceptions).answer e in
        rw (a, exception_refused r w.exceptions w.state start end handler d n kind a) refl
    step_same (register_local_names ns) e =
        let a = by_answer (register_names_of w.state ns w.names).answer e in
        rw (a, names_refused r w.names w.state ns a) refl
    step_same (register_local_name slot name) e =
        let a = by_answer (register_name_of w.state slot name w.names).answer e in
        rw (a, name_refused r w.names w.state slot name a) refl
    step_same (build fill) e =
        let a = by_answer (build_of w.state fill w.names w.marks).answer e in
        rw (a, build_refused r w.names w.state fill w.marks a) refl
    step_same (set_location r f) e = clash cc
    step_same current_offset e = clash cc
    step_same current_position e = clash cc
    step_same stack_depth e = clash cc
    step_same is_dead e = clash cc

pub refused_same : RefusedSame
refused_same c w w' r m =
    let e = made_step c w w' (no r) m in
    ap (λ (t : Turn). t.left) e ∙ step_same r w c (sym (ap (λ (t : Turn). t.answer) e))

pub new_refused : NewRefused
new_refused told κs entry exit r k =
    let a : (new_of told entry.now).answer ≡ Err r = sym (ap (λ (x : Kept). x.answer) k) in
    ap (λ (x : Kept). x.cells) k ∙ new_kept r entry.now told a
