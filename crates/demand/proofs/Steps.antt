-- Each public call, made as its promise says: it moves the view, and keeps the used parts within the tables.
-- Assumes nothing.
use Rattle.builder.specs.declared.numbered.Instruction.{Instruction}
use Rattle.op.specs.declared.Refusal.{Refusal}
use Rattle.std.specs.Prelude.{Ok, Err, Some, None, Result, Option}
use mathlib.Core.Path.{◌≡◌, refl}
use mathlib.Core.List.{List, []}
use Prim.Native.Nat.{ℕ, ◌*◌, ◌%◌, ◌≤◌}
use native.Mathlib.Omega.{arith}
use lib.ListN.{length}
use Rattle.op.specs.Chosen.{LoadGlobalCallable, CallBuiltinFunction, CallBuiltinType, CallFunctionKw, CallAttrKw}
use Rattle.op.specs.Opcodes.{RaiseUnboundLocal}
use Rattle.op.specs.declared.Operand.{Operand}
use Rattle.op.specs.declared.Operand.TheVariants as O
use Rattle.op.specs.declared.Refusal.TheVariants.{WrongShape}
use Rattle.code.specs.Tables.{start_cells}
use Rattle.builder.specs.Emission.{load_op, load_operand, store_op, store_operand}
use Rattle.builder.specs.Emission.{emit_named}
use Rattle.builder.specs.Numbered.{emit_instruction, instruction_of}
use Rattle.builder.specs.State.{Kept}
use Rattle.builder.specs.Constants.{add_const_of}
use Rattle.builder.specs.Exceptions.{add_exception_of}
use Rattle.builder.specs.Names.{register_names_of, register_name_of, build_of}
use Rattle.builder.specs.Locations.{with_location}
use Rattle.builder.specs.declared.Builder.{Builder}
use Rattle.demand.specs.History.{Call, emit, other, Given, no, ok}
use Rattle.demand.specs.Calls.{emit', emit_u8, emit_i8, emit_u8_u8, emit_u16, emit_u16_u16, emit_u16_u8, emit_u16_u8_u8, emit_call_builtin_function, emit_call_builtin_type}
use Rattle.demand.specs.Calls.{emit_call_function_kw, emit_call_attr_kw, emit_raise_unbound_local}
use Rattle.demand.specs.Calls.{emit_load_global_callable, emit_name_op, emit_load_local, emit_store_local}
use Rattle.demand.specs.Calls.{emit_numbered}
use Rattle.demand.specs.Calls.{emit_jump, emit_jump_to, current_jump_target, patch_jump, new_code_region, add_const, add_exception_entry, register_local_names, register_local_name, build}
use Rattle.demand.specs.Calls.{set_location, current_offset, current_position, stack_depth, is_dead}
use Rattle.demand.specs.Calls.{PublicCall, kind_of}
use Rattle.demand.specs.World.{World, world, given, after, given_const, after_const, Run, Taken, none, then}
use Rattle.demand.proofs.Model.{Turn, turn, emits, step}
use Rattle.demand.proofs.Contracts.{made_step}
use Rattle.demand.proofs.Numbering.{kind_by, load_kind, numbered_is, numbered_kind, numbered_sane, sane_load}
use Rattle.demand.proofs.Numbering.{sane_store, store_kind}
use Rattle.demand.proofs.View.{View, view_of, Moved, refused, idle}
use Rattle.demand.proofs.Views.{emit_moves, jump_moves, to_moves, patch_moves, target_moves, region_moves}
use Rattle.demand.proofs.Held.{emit_held, jump_held, to_held, patch_held}
use Rattle.demand.proofs.Keeping.{SameCore}
use Rattle.demand.proofs.Keeping.{exception_same, names_same, name_same, build_same, const_same}
use Rattle.demand.proofs.Within.{emit_starts, to_starts, jump_starts, patch_starts, target_keeps, region_keeps}
use Rattle.demand.proofs.Within.{same_after, const_after}
use Rattle.demand.proofs.Ties.{Tied, Sane, moved_tied}

-- what the calls emit: signed numbers in their range, and no jumps
pub sane : (c : PublicCall) → Sane (kind_of c)
sane (emit' k) = (tt, λ n e. refl)
sane (emit_u8 k a) = (tt, λ n e. refl)
sane (emit_i8 k z f) = (f, λ n e. refl)
sane (emit_u8_u8 k a b) = (tt, λ n e. refl)
sane (emit_u16 k a) = (tt, λ n e. refl)
sane (emit_u16_u16 k a b) = (tt, λ n e. refl)
sane (emit_u16_u8 k a b) = (tt, λ n e. refl)
sane (emit_u16_u8_u8 k a b c) = (tt, λ n e. refl)
sane (emit_call_builtin_function a n) = (tt, λ n e. refl)
sane (emit_call_builtin_type a n) = (tt, λ n e. refl)
sane (emit_call_function_kw p ns) = (tt, λ n e. refl)
sane (emit_call_attr_kw a p ns) = (tt, λ n e. refl)
sane (emit_raise_unbound_local name) = (tt, λ n e. refl)
sane (emit_load_global_callable slot name) = (tt, λ n e. refl)
sane (emit_name_op k slot name flags) = (tt, λ n e. refl)
sane (emit_load_local slot) = rw (load_kind slot) (sane_load slot)
sane (emit_store_local slot) = rw (store_kind slot) (sane_store slot)
sane (emit_numbered call k a b c ns) = numbered_sane call k a b c ns
sane (emit_jump k) = tt
sane (emit_jump_to k t) = tt
sane current_jump_target = tt
sane (patch_jump l) = tt
sane (new_code_region d f) = omega arith
sane (add_const v) = tt
sane (add_exception_entry start end handler d n kind) = tt
sane (register_local_names ns) = tt
sane (register_local_name slot name) = tt
sane (build fill) = tt
sane (set_location r f) = tt
sane current_offset = tt
sane current_position = tt
sane stack_depth = tt
sane is_dead = tt

-- the used parts are within the tables

pub record Within (w : World) : Type 0 where
  pub code : w.state.core.code ≤ length w.code
  pub starts : w.state.starts * start_cells ≤ length w.starts

abbrev pub view : World → View
view w = view_of w.state w.code w.marks w.starts

-- what a call does to a world: it moves the view, and the used parts stay within
pub record Moving (w : World) (c : Call) (t : Turn) : Type 0 where
  pub moves : Moved (view w) c t.answer (view t.left)
  pub within : Within t.left

given_idle : (a : Result Builder Refusal) (v : View) → Moved v other (given a) v
given_idle (Ok b) v = idle
given_idle (Err r) v = refused

const_idle : (a : Result (Builder × ℕ) Refusal) (v : View) → Moved v other (given_const a) v
const_idle (Ok (b, i)) v = idle
const_idle (Err r) v = refused

module _ (w : World) (h : Within w) where
  -- an emitting call
  emission : (k name : ℕ) (o : Operand) (ns : List ℕ)
      → Moving w (emit k o ns) (emits w (emit_named w.state k name o ns w.code w.locations))
  emission k name o ns = record {
    moves = emit_moves w.state k name o ns w.code w.locations w.marks w.starts;
    within = record {
      code = emit_held w.state k w.code w.locations h.code name o ns;
      starts = rw (emit_starts w.state k name o ns w.code w.locations) h.starts;
    };
  }

  -- a call that leaves core, code, marks and starts
  stays : (b : Builder) (a : Given) (l e k ns : List ℕ) → (b.core ≡ w.state.core) × (b.starts ≡ w.state.starts)
      → ((v : View) → Moved v other a v)
      → Moving w other (turn (world b w.code l e k ns w.marks w.starts) a)
  stays b a l e k ns q f = record {
    moves = rw (q.0, q.1) (f (view w));
    within = record { code = rw q.0 h.code; starts = rw q.1 h.starts };
  }

  keeps : (x : Kept) (l e k ns : List ℕ) → SameCore w.state x
      → Moving w other (turn (world (after x.answer w.state) w.code l e k ns w.marks w.starts)
      (given x.answer))
  keeps x l e k ns s = stays (after x.answer w.state) (given x.answer) l e k ns (same_after w.state x s)
      (given_idle x.answer)

  -- the instruction that a number comes to
  numbered : (ns : List ℕ) (i : Option Instruction)
      → Moving w (kind_by ns i) (emits w (emit_instruction i w.state ns w.code w.locations))
  numbered ns None =
      stays w.state (no WrongShape) w.locations w.exceptions w.constants w.names (refl, refl)
      (λ v. refused)
  numbered ns (Some i) = emission i.opcode i.name i.operand ns

  pub moving : (c : PublicCall) → Moving w (kind_of c) (step c w)
  moving (emit' k) = emission k 0 O.None []
  moving (emit_u8 k a) = emission k 0 (O.U8 a) []
  moving (emit_i8 k z f) = emission k 0 (O.I8 z) []
  moving (emit_u8_u8 k a b) = emission k 0 (O.U8U8 a b) []
  moving (emit_u16 k a) = emission k 0 (O.U16 a) []
  moving (emit_u16_u16 k a b) = emission k 0 (O.U16U16 a b) []
  moving (emit_u16_u8 k a b) = emission k 0 (O.U16U8 a b) []
  moving (emit_u16_u8_u8 k a b c) = emission k 0 (O.U16U8U8 a b c) []
  moving (emit_call_builtin_function a n) = emission CallBuiltinFunction 0 (O.U8U8 a n) []
  moving (emit_call_builtin_type a n) = emission CallBuiltinType 0 (O.U8U8 a n) []
  moving (emit_call_function_kw p ns) = emission CallFunctionKw 0 (O.CallKw p (length ns % 256)) ns
  moving (emit_call_attr_kw a p ns) = emission CallAttrKw 0 (O.CallAttrKw a p (length ns % 256)) ns
  moving (emit_raise_unbound_local name) = emission RaiseUnboundLocal name (O.U16 (name % 65536)) []
  moving (emit_load_global_callable slot name) = emission LoadGlobalCallable name (O.U16U16 slot (name % 65536)) []
  moving (emit_name_op k slot name flags) = emission k name (O.U16U16U8 slot (name % 65536) flags) []
  moving (emit_load_local slot) = rw (load_kind slot) (emission (load_op slot) 0 (load_operand slot) [])
  moving (emit_store_local slot) = rw (store_kind slot) (emission (store_op slot) 0 (store_operand slot) [])
  moving (emit_numbered call k a b c ns) =
      rw (numbered_kind call k a b c ns, numbered_is w.state call k a b c ns w.code w.locations)
      (numbered ns (instruction_of call k a b c (length ns % 256)))
  moving (emit_jump k) = record {
    moves = jump_moves w.state k w.code w.locations w.marks w.starts;
    within = record {
      code = jump_held w.state k w.code w.locations h.code w.marks;
      starts = rw (jump_starts w.state k w.code w.locations w.marks) h.starts;
    };
  }
  moving (emit_jump_to k t) = record {
    moves = to_moves w.state k t w.code w.locations w.marks w.starts;
    within = record {
      code = to_held w.state k w.code w.locations h.code w.marks t;
      starts = rw (to_starts w.state k t w.code w.locations w.marks) h.starts;
    };
  }
  moving current_jump_target =
      let q = target_keeps w.state w.marks in
      record {
        moves = target_moves w.state w.code w.marks w.starts h.code;
        within = record { code = rw q.0 h.code; starts = rw q.1 h.starts };
      }
  moving (patch_jump l) = record {
    moves = patch_moves w.state w.code w.marks w.starts l;
    within = record {
      code = patch_held w.state w.code w.marks h.code l;
      starts = rw (patch_starts w.state l w.code w.marks) h.starts;
    };
  }
  moving (new_code_region d f) =
      let q = region_keeps w.state d w.starts h.starts in
      record {
        moves = region_moves w.state w.code w.marks w.starts h.code d;
        within = record { code = rw q.0 h.code; starts = q.1 };
      }
  moving (add_const v) =
      let x = add_const_of w.state v w.constants in
      stays (after_const x.answer w.state) (given_const x.answer) w.locations w.exceptions x.cells
      w.names
      (const_after w.state x (const_same w.state v w.constants)) (const_idle x.answer)
  moving (add_exception_entry start end handler d n kind) =
      let x = add_exception_of w.state start end handler d n kind w.exceptions in
      keeps x w.locations x.cells w.constants w.names
      (exception_same w.state w.exceptions start end handler d n kind)
  moving (register_local_names ns) =
      let x = register_names_of w.state ns w.names in
      keeps x w.locations w.exceptions w.constants x.cells (names_same w.state w.names ns)
  moving (register_local_name slot name) =
      let x = register_name_of w.state slot name w.names in
      keeps x w.locations w.exceptions w.constants x.cells (name_same w.state w.names slot name)
  moving (build fill) =
      let x = build_of w.state fill w.names w.marks in
      keeps x w.locations w.exceptions w.constants x.cells
      (build_same w.state w.names fill w.marks)
  moving (set_location r f) = stays (with_location w.state (Some (record { range = r; focus = f }))) ok w.locations w.exceptions
      w.constants w.names (refl, refl) (λ v. idle)
  moving current_offset =
      stays w.state ok w.locations w.exceptions w.constants w.names (refl, refl) (λ v. idle)
  moving current_position =
      stays w.state ok w.locations w.exceptions w.constants w.names (refl, refl) (λ v. idle)
  moving stack_depth = stays w.state ok w.locations w.exceptions w.constants w.names (refl, refl)
      (λ v. idle)
  moving is_dead = stays w.state ok w.locations w.exceptions w.constants w.names (refl, refl) (λ v. idle)

-- so calls keep the history tied to the view

pub taken_tied : (x y : Run) → Taken x y → Within x.world → Tied (view x.world) x.history
    → Within y.world × Tied (view y.world) y.history
taken_tied x y none h t = (h, t)
taken_tied x z (then {y} c g w' before m) h t =
    let q = taken_tied x y before h t in
    let v : Moving y.world (kind_of c) (turn w' g) =
    rw (made_step c y.world w' g m) (moving y.world q.0 c) in
    (v.within, moved_tied y.history q.1 (sane c) v.moves)
