-- Any calls on a builder: state and lent tables as each call leaves them, by the contract of its function. `Learnt`
-- of a function is its `ensures` as the toolchain reads it from the source: a fact about the arguments, the answer
-- and the arguments at exit. So nothing here says a second time what a call does.
-- Assumes nothing.
use Rattle.builder.specs.declared.JumpTarget.{JumpTarget}
use Rattle.builder.specs.declared.JumpLabel.{JumpLabel}
use Rattle.op.specs.declared.Refusal.{Refusal}
use Rattle.std.specs.Prelude.{◌≡◌, List, ℕ, Ok, Err, Result}
use Rattle.std.specs.Borrow.{Bor, MutBor}
use Rattle.builder.specs.declared.Builder.{Builder}
use Rattle.builder.proofs.Builder.emit.Reads.{Learnt as emit_says}
use Rattle.builder.proofs.Builder.emit_u8.Reads.{Learnt as emit_u8_says}
use Rattle.builder.proofs.Builder.emit_i8.Reads.{Learnt as emit_i8_says}
use Rattle.builder.proofs.Builder.emit_u8_u8.Reads.{Learnt as emit_u8_u8_says}
use Rattle.builder.proofs.Builder.emit_u16.Reads.{Learnt as emit_u16_says}
use Rattle.builder.proofs.Builder.emit_u16_u16.Reads.{Learnt as emit_u16_u16_says}
use Rattle.builder.proofs.Builder.emit_u16_u8.Reads.{Learnt as emit_u16_u8_says}
use Rattle.builder.proofs.Builder.emit_u16_u8_u8.Reads.{Learnt as emit_u16_u8_u8_says}
use Rattle.builder.proofs.Builder.emit_call_builtin_function.Reads.{Learnt as emit_call_builtin_function_says}
use Rattle.builder.proofs.Builder.emit_call_builtin_type.Reads.{Learnt as emit_call_builtin_type_says}
use Rattle.builder.proofs.Builder.emit_call_function_kw.Reads.{Learnt as emit_call_function_kw_says}
use Rattle.builder.proofs.Builder.emit_call_attr_kw.Reads.{Learnt as emit_call_attr_kw_says}
use Rattle.builder.proofs.Builder.emit_raise_unbound_local.Reads.{Learnt as emit_raise_unbound_local_says}
use Rattle.builder.proofs.Builder.emit_load_global_callable.Reads.{Learnt as emit_load_global_callable_says}
use Rattle.builder.proofs.Builder.emit_name_op.Reads.{Learnt as emit_name_op_says}
use Rattle.builder.proofs.Builder.emit_load_local.Reads.{Learnt as emit_load_local_says}
use Rattle.builder.proofs.Builder.emit_store_local.Reads.{Learnt as emit_store_local_says}
use Rattle.builder.proofs.Builder.emit_numbered.Reads.{Learnt as emit_numbered_says}
use Rattle.builder.proofs.Builder.emit_jump.Reads.{Learnt as emit_jump_says}
use Rattle.builder.proofs.Builder.emit_jump_to.Reads.{Learnt as emit_jump_to_says}
use Rattle.builder.proofs.Builder.current_jump_target.Reads.{Learnt as current_jump_target_says}
use Rattle.builder.proofs.Builder.patch_jump.Reads.{Learnt as patch_jump_says}
use Rattle.builder.proofs.Builder.new_code_region.Reads.{Learnt as new_code_region_says}
use Rattle.builder.proofs.Builder.add_const.Reads.{Learnt as add_const_says}
use Rattle.builder.proofs.Builder.add_exception_entry.Reads.{Learnt as add_exception_entry_says}
use Rattle.builder.proofs.Builder.register_local_names.Reads.{Learnt as register_local_names_says}
use Rattle.builder.proofs.Builder.register_local_name.Reads.{Learnt as register_local_name_says}
use Rattle.builder.proofs.Builder.build.Reads.{Learnt as build_says}
use Rattle.builder.proofs.Builder.set_location.Reads.{Learnt as set_location_says}
use Rattle.builder.proofs.Builder.current_offset.Reads.{Learnt as current_offset_says}
use Rattle.builder.proofs.Builder.current_position.Reads.{Learnt as current_position_says}
use Rattle.builder.proofs.Builder.stack_depth.Reads.{Learnt as stack_depth_says}
use Rattle.builder.proofs.Builder.is_dead.Reads.{Learnt as is_dead_says}
use Rattle.demand.specs.History.{Given, no, ok, label, target, History, seen}
use Rattle.demand.specs.Calls.{emit', emit_u8, emit_i8, emit_u8_u8, emit_u16, emit_u16_u16, emit_u16_u8, emit_u16_u8_u8, emit_call_builtin_function, emit_call_builtin_type}
use Rattle.demand.specs.Calls.{emit_call_function_kw, emit_call_attr_kw, emit_raise_unbound_local}
use Rattle.demand.specs.Calls.{emit_load_global_callable, emit_name_op, emit_load_local, emit_store_local}
use Rattle.demand.specs.Calls.{emit_numbered}
use Rattle.demand.specs.Calls.{emit_jump, emit_jump_to, current_jump_target, patch_jump, new_code_region, add_const, add_exception_entry, register_local_names, register_local_name, build}
use Rattle.demand.specs.Calls.{set_location, current_offset, current_position, stack_depth, is_dead, PublicCall}
use Rattle.demand.specs.Calls.{kind_of}

-- the state and the seven lent tables
pub record World : Type 0 where
  pub state : Builder
  pub code : List ℕ
  pub locations : List ℕ
  pub exceptions : List ℕ
  pub constants : List ℕ
  pub names : List ℕ
  pub marks : List ℕ
  pub starts : List ℕ

abbrev pub world : Builder → List ℕ → List ℕ → List ℕ → List ℕ → List ℕ → List ℕ → List ℕ → World
world b c l e k n m s =
    record { state = b; code = c; locations = l; exceptions = e; constants = k; names = n; marks = m; starts = s }

-- what an answer says, and the state that the caller has then: a refused call hands back none, so the caller has the
-- one that it gave

abbrev pub given : Result Builder Refusal → Given
given (Ok b) = ok
given (Err r) = no r

abbrev pub after : Result Builder Refusal → Builder → Builder
after (Ok b) old = b
after (Err r) old = old

abbrev pub given_jump : Result (Builder × JumpLabel) Refusal → Given
given_jump (Ok (b, l)) = label l
given_jump (Err r) = no r

abbrev pub after_jump : Result (Builder × JumpLabel) Refusal → Builder → Builder
after_jump (Ok (b, l)) old = b
after_jump (Err r) old = old

abbrev pub given_target : Result (Builder × JumpTarget) Refusal → Given
given_target (Ok (b, t)) = target t
given_target (Err r) = no r

abbrev pub after_target : Result (Builder × JumpTarget) Refusal → Builder → Builder
after_target (Ok (b, t)) old = b
after_target (Err r) old = old

abbrev pub given_const : Result (Builder × ℕ) Refusal → Given
given_const (Ok (b, i)) = ok
given_const (Err r) = no r

abbrev pub after_const : Result (Builder × ℕ) Refusal → Builder → Builder
after_const (Ok (b, i)) old = b
after_const (Err r) old = old

-- a call that never refuses
abbrev pub always : {A : Type 0} → A → Given
always r = ok

-- a slice lent to be written: a reference to its cells
abbrev pub Slice : Type 0
Slice = MutBor (List ℕ)

-- the same slice, lent to be read alone
abbrev pub to_read : Slice → Bor (List ℕ)
to_read s = record { ref_ptr = s.ref_ptr; now = s.now }

-- one lent to be read that holds these cells, wherever it lies
pub record Holding (cells : List ℕ) : Type 0 where
  pub slice : Bor (List ℕ)
  pub holds : slice.now ≡ cells

-- the seven tables as slices
pub record Lent : Type 0 where
  pub code : Slice
  pub locations : Slice
  pub exceptions : Slice
  pub constants : Slice
  pub names : Slice
  pub marks : Slice
  pub starts : Slice

-- that hold a world's cells
pub record Holds (t : Lent) (w : World) : Type 0 where
  pub code : t.code.now ≡ w.code
  pub locations : t.locations.now ≡ w.locations
  pub exceptions : t.exceptions.now ≡ w.exceptions
  pub constants : t.constants.now ≡ w.constants
  pub names : t.names.now ≡ w.names
  pub marks : t.marks.now ≡ w.marks
  pub starts : t.starts.now ≡ w.starts

-- what a world becomes, by the tables that the call is lent to change: those at exit, and the others as they were

-- code and locations
abbrev pub emission : Result Builder Refusal → Lent → World → World
emission r t w =
    world (after r w.state) t.code.now t.locations.now w.exceptions w.constants w.names w.marks w.starts

-- code, locations and marks
abbrev pub labelling : Result (Builder × JumpLabel) Refusal → Lent → World → World
labelling r t w =
    world (after_jump r w.state) t.code.now t.locations.now w.exceptions w.constants w.names
    t.marks.now w.starts

-- marks
abbrev pub targeting : Result (Builder × JumpTarget) Refusal → Lent → World → World
targeting r t w =
    world (after_target r w.state) w.code w.locations w.exceptions w.constants w.names t.marks.now w.starts

-- code and marks
abbrev pub patching : Result Builder Refusal → Lent → World → World
patching r t w =
    world (after r w.state) t.code.now w.locations w.exceptions w.constants w.names t.marks.now w.starts

-- starts
abbrev pub opening : Result Builder Refusal → Lent → World → World
opening r t w =
    world (after r w.state) w.code w.locations w.exceptions w.constants w.names w.marks
    t.starts.now

-- constants
abbrev pub holding : Result (Builder × ℕ) Refusal → Lent → World → World
holding r t w =
    world (after_const r w.state) w.code w.locations w.exceptions t.constants.now w.names w.marks
    w.starts

-- exceptions
abbrev pub catching : Result Builder Refusal → Lent → World → World
catching r t w =
    world (after r w.state) w.code w.locations t.exceptions.now w.constants w.names w.marks
    w.starts

-- names
abbrev pub naming : Result Builder Refusal → Lent → World → World
naming r t w =
    world (after r w.state) w.code w.locations w.exceptions w.constants t.names.now w.marks
    w.starts

-- none: a call whose answer is the state, and one that only asks
abbrev pub setting : Builder → Lent → World → World
setting r t w = world r w.code w.locations w.exceptions w.constants w.names w.marks w.starts

abbrev pub asking : {A : Type 0} → A → Lent → World → World
asking r t w = w

-- A call by its contract: some answer and some cells at exit of which the contract holds, and what they come to.
-- `args` are the function's arguments over the lent tables, at entry and at exit.
pub record By {K A R : Type 0} (contract : K → A → R → A → Type 0) (args : Lent → A) (tells : R → Given)
    (becomes : R → Lent → World → World) (w : World) (g : Given) (w' : World) : Type 0 where
  pub lifetimes : K
  pub entry : Lent
  pub exit : Lent
  pub answer : R
  pub lends : Holds entry w
  pub keeps : contract lifetimes (args entry) answer (args exit)
  pub gives : g ≡ tells answer
  pub leaves : w' ≡ becomes answer exit w

-- the call c on the world w answers g and leaves w': what the function's own contract allows (R59)
abbrev pub Made : PublicCall → World → Given → World → Type 0
Made (emit' k) w = By emit_says (λ t. (w.state, (k, (t.code, (t.locations, tt))))) given emission w
Made (emit_u8 k a) w = By emit_u8_says (λ t. (w.state, (k, (a, (t.code, (t.locations, tt)))))) given emission w
Made (emit_i8 k z f) w = By emit_i8_says (λ t. (w.state, (k, (z, (t.code, (t.locations, tt)))))) given emission w
Made (emit_u8_u8 k a b) w =
    By emit_u8_u8_says (λ t. (w.state, (k, (a, (b, (t.code, (t.locations, tt))))))) given emission w
Made (emit_u16 k a) w = By emit_u16_says (λ t. (w.state, (k, (a, (t.code, (t.locations, tt)))))) given emission w
Made (emit_u16_u16 k a b) w =
    By emit_u16_u16_says (λ t. (w.state, (k, (a, (b, (t.code, (t.locations, tt))))))) given emission w
Made (emit_u16_u8 k a b) w =
    By emit_u16_u8_says (λ t. (w.state, (k, (a, (b, (t.code, (t.locations, tt))))))) given emission w
Made (emit_u16_u8_u8 k a b c) w =
    By emit_u16_u8_u8_says (λ t. (w.state, (k, (a, (b, (c, (t.code, (t.locations, tt)))))))) given emission w
Made (emit_call_builtin_function a n) w =
    By emit_call_builtin_function_says (λ t. (w.state, (a, (n, (t.code, (t.locations, tt)))))) given emission w
Made (emit_call_builtin_type a n) w =
    By emit_call_builtin_type_says (λ t. (w.state, (a, (n, (t.code, (t.locations, tt)))))) given emission w
Made (emit_call_function_kw p ns) w =
    λ g w'. (names : Holding ns)
    × By emit_call_function_kw_says (λ t. (w.state, (p, (names.slice, (t.code, (t.locations, tt))))))
    given emission w g w'
Made (emit_call_attr_kw a p ns) w =
    λ g w'. (names : Holding ns)
    × By emit_call_attr_kw_says (λ t. (w.state, (a, (p, (names.slice, (t.code, (t.locations, tt)))))))
    given emission w g w'
Made (emit_raise_unbound_local name) w =
    By emit_raise_unbound_local_says (λ t. (w.state, (name, (t.code, (t.locations, tt))))) given emission w
Made (emit_load_global_callable slot name) w =
    By emit_load_global_callable_says (λ t. (w.state, (slot, (name, (t.code, (t.locations, tt)))))) given emission w
Made (emit_name_op k slot name flags) w =
    By emit_name_op_says (λ t. (w.state, (k, (slot, (name, (flags, (t.code, (t.locations, tt)))))))) given emission w
Made (emit_load_local slot) w =
    By emit_load_local_says (λ t. (w.state, (slot, (t.code, (t.locations, tt))))) given emission w
Made (emit_store_local slot) w =
    By emit_store_local_says (λ t. (w.state, (slot, (t.code, (t.locations, tt))))) given emission w
Made (emit_numbered call k a b c ns) w =
    λ g w'. (names : Holding ns)
    × By emit_numbered_says
    (λ t. (w.state, (call, (k, (a, (b, (c, (names.slice, (t.code, (t.locations, tt))))))))))
    given emission w g w'
Made (emit_jump k) w =
    By emit_jump_says (λ t. (w.state, (k, (t.code, (t.locations, (t.marks, tt)))))) given_jump labelling w
Made (emit_jump_to k aim) w =
    By emit_jump_to_says (λ t. (w.state, (k, (aim, (t.code, (t.locations, (to_read t.marks, tt))))))) given emission w
Made current_jump_target w = By current_jump_target_says (λ t. (w.state, (t.marks, tt))) given_target targeting w
Made (patch_jump l) w = By patch_jump_says (λ t. (w.state, (l, (t.code, (t.marks, tt))))) given patching w
Made (new_code_region d f) w = By new_code_region_says (λ t. (w.state, (d, (t.starts, tt)))) given opening w
Made (add_const v) w = By add_const_says (λ t. (w.state, (v, (t.constants, tt)))) given_const holding w
Made (add_exception_entry start end handler d n kind) w =
    By add_exception_entry_says (λ t. (w.state, (start, (end, (handler, (d, (n, (kind, (t.exceptions, tt)))))))))
    given catching w
Made (register_local_names ns) w =
    λ g w'. (names : Holding ns)
    × By register_local_names_says (λ t. (w.state, (names.slice, (t.names, tt))))
    given naming w g w'
Made (register_local_name slot name) w =
    By register_local_name_says (λ t. (w.state, (slot, (name, (t.names, tt))))) given naming w
Made (build fill) w = By build_says (λ t. (w.state, (fill, (t.names, (to_read t.marks, tt))))) given naming w
Made (set_location r f) w = By set_location_says (λ t. (w.state, (r, (f, tt)))) always setting w
Made current_offset w = By current_offset_says (λ t. (w.state, tt)) always asking w
Made current_position w = By current_position_says (λ t. (w.state, tt)) always asking w
Made stack_depth w = By stack_depth_says (λ t. (w.state, tt)) always asking w
Made is_dead w = By is_dead_says (λ t. (w.state, tt)) always asking w

-- where a run stands: state and tables, and the history so far
pub record Run : Type 0 where
  pub world : World
  pub history : History

-- behind one call more, on what the one before left
abbrev pub next : Run → PublicCall → Given → World → Run
next x c g w' = record { world = w'; history = seen x.history x.world.state.core.depth (kind_of c) g }

-- "Any calls .., refusals among them, state and tables handed on unaltered" (R59), from one standing to another
pub data Taken (x : Run) : Run → Type 0 where
  none : Taken x x
  then : {y : Run} (c : PublicCall) (g : Given) (w' : World) → Taken x y → Made c y.world g w'
      → Taken x (next y c g w')
