-- The contracts leave no choice: what a call answers and leaves, if its function keeps its contract, is the step of
-- the model.
-- Assumes nothing.
use mathlib.Core.Path.{◌≡◌, refl, ap, subst}
use Rattle.demand.specs.History.{Given}
use Rattle.demand.specs.Calls.{emit', emit_u8, emit_i8, emit_u8_u8, emit_u16, emit_u16_u16, emit_u16_u8, emit_u16_u8_u8, emit_call_builtin_function, emit_call_builtin_type}
use Rattle.demand.specs.Calls.{emit_call_function_kw, emit_call_attr_kw, emit_raise_unbound_local}
use Rattle.demand.specs.Calls.{emit_load_global_callable, emit_name_op, emit_load_local, emit_store_local}
use Rattle.demand.specs.Calls.{emit_numbered}
use Rattle.demand.specs.Calls.{emit_jump, emit_jump_to, current_jump_target, patch_jump, new_code_region, add_const, add_exception_entry, register_local_names, register_local_name, build}
use Rattle.demand.specs.Calls.{set_location, current_offset, current_position, stack_depth, is_dead, PublicCall}
use Rattle.demand.specs.World.{World, world, Lent, Holds, By, Made}
use Rattle.demand.proofs.Model.{turn, emits, jumps, targets, patches, opens, adds, enters, registers, sets}
use Rattle.demand.proofs.Model.{step}

-- a world with the cells that a call is lent
abbrev with_cells : World → Lent → World
with_cells w t =
    world w.state t.code.now t.locations.now t.exceptions.now t.constants.now t.names.now
    t.marks.now t.starts.now

-- is the world itself
same_cells : (w : World) (t : Lent) → Holds t w → with_cells w t ≡ w
same_cells w t h = rw (h.code, h.locations, h.exceptions, h.constants, h.names, h.marks, h.starts) refl

-- the world with the cells that a call was lent
abbrev lent : {K A R : Type 0} {contract : K → A → R → A → Type 0} {args : Lent → A} {tells : R → Given}
    {becomes : R → Lent → World → World} {w w' : World} {g : Given} → By contract args tells becomes w g w' → World
lent {w = w} m = with_cells w m.entry

-- a step of that world is one of the world itself
by_step : {K A R : Type 0} {contract : K → A → R → A → Type 0} {args : Lent → A} {tells : R → Given}
    {becomes : R → Lent → World → World} {w w' : World} {g : Given}
    (c : PublicCall) (m : By contract args tells becomes w g w')
    → turn (becomes m.answer m.exit (lent m)) (tells m.answer) ≡ step c (lent m)
    → turn w' g ≡ step c w
by_step {tells = tells} {becomes = becomes} {w = w} c m e =
    rw (m.gives, m.leaves)
    (subst (λ (v : World). turn (becomes m.answer m.exit v) (tells m.answer) ≡ step c v)
    (same_cells w m.entry m.lends) e)

-- one line for each function: its contract, and no other, closes it
pub made_step : (c : PublicCall) (w w' : World) (g : Given) → Made c w g w' → turn w' g ≡ step c w
made_step (emit' k) w w' g m = by_step (emit' k) m (ap (emits (lent m)) m.keeps)
made_step (emit_u8 k a) w w' g m = by_step (emit_u8 k a) m (ap (emits (lent m)) m.keeps)
made_step (emit_i8 k z f) w w' g m = by_step (emit_i8 k z f) m (ap (emits (lent m)) m.keeps)
made_step (emit_u8_u8 k a b) w w' g m = by_step (emit_u8_u8 k a b) m (ap (emits (lent m)) m.keeps)
made_step (emit_u16 k a) w w' g m = by_step (emit_u16 k a) m (ap (emits (lent m)) m.keeps)
made_step (emit_u16_u16 k a b) w w' g m = by_step (emit_u16_u16 k a b) m (ap (emits (lent m)) m.keeps)
made_step (emit_u16_u8 k a b) w w' g m = by_step (emit_u16_u8 k a b) m (ap (emits (lent m)) m.keeps)
made_step (emit_u16_u8_u8 k a b c) w w' g m = by_step (emit_u16_u8_u8 k a b c) m (ap (emits (lent m)) m.keeps)
made_step (emit_call_builtin_function a n) w w' g m =
    by_step (emit_call_builtin_function a n) m (ap (emits (lent m)) m.keeps)
made_step (emit_call_builtin_type a n) w w' g m =
    by_step (emit_call_builtin_type a n) m (ap (emits (lent m)) m.keeps)
made_step (emit_call_function_kw p ns) w w' g m =
    rw m.0.holds at (by_step (emit_call_function_kw p m.0.slice.now) m.1 (ap (emits (lent m.1)) m.1.keeps))
made_step (emit_call_attr_kw a p ns) w w' g m =
    rw m.0.holds at (by_step (emit_call_attr_kw a p m.0.slice.now) m.1 (ap (emits (lent m.1)) m.1.keeps))
made_step (emit_raise_unbound_local name) w w' g m =
    by_step (emit_raise_unbound_local name) m (ap (emits (lent m)) m.keeps)
made_step (emit_load_global_callable slot name) w w' g m =
    by_step (emit_load_global_callable slot name) m (ap (emits (lent m)) m.keeps)
made_step (emit_name_op k slot name flags) w w' g m =
    by_step (emit_name_op k slot name flags) m (ap (emits (lent m)) m.keeps)
made_step (emit_load_local slot) w w' g m = by_step (emit_load_local slot) m (ap (emits (lent m)) m.keeps)
made_step (emit_store_local slot) w w' g m = by_step (emit_store_local slot) m (ap (emits (lent m)) m.keeps)
made_step (emit_numbered call k a b c ns) w w' g m =
    rw m.0.holds at (by_step (emit_numbered call k a b c m.0.slice.now) m.1 (ap (emits (lent m.1)) m.1.keeps))
made_step (emit_jump k) w w' g m = by_step (emit_jump k) m (ap (jumps (lent m)) m.keeps)
made_step (emit_jump_to k aim) w w' g m = by_step (emit_jump_to k aim) m (ap (emits (lent m)) m.keeps)
made_step current_jump_target w w' g m = by_step current_jump_target m (ap (targets (lent m)) m.keeps)
made_step (patch_jump l) w w' g m = by_step (patch_jump l) m (ap (patches (lent m)) m.keeps)
made_step (new_code_region d f) w w' g m = by_step (new_code_region d f) m (ap (opens (lent m)) m.keeps)
made_step (add_const v) w w' g m = by_step (add_const v) m (ap (adds (lent m)) m.keeps)
made_step (add_exception_entry start end handler d n kind) w w' g m =
    by_step (add_exception_entry start end handler d n kind) m (ap (enters (lent m)) m.keeps)
made_step (register_local_names ns) w w' g m =
    rw m.0.holds at (by_step (register_local_names m.0.slice.now) m.1 (ap (registers (lent m.1)) m.1.keeps))
made_step (register_local_name slot name) w w' g m =
    by_step (register_local_name slot name) m (ap (registers (lent m)) m.keeps)
made_step (build fill) w w' g m = by_step (build fill) m (ap (registers (lent m)) m.keeps)
made_step (set_location r f) w w' g m = by_step (set_location r f) m (ap (sets (lent m)) m.keeps)
made_step current_offset w w' g m = by_step current_offset m refl
made_step current_position w w' g m = by_step current_position m refl
made_step stack_depth w w' g m = by_step stack_depth m refl
made_step is_dead w w' g m = by_step is_dead m refl
