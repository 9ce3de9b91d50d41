-- All twelve examples hold: computed from the definitions that the promises cite, A, K and L by the checker's
-- certificate.
-- Assumes nothing.
use mathlib.Core.Path.{refl}
use mathlib.Core.List.{[], ◌∷◌}
use native.Mathlib.Omega.{arith}
use Rattle.op.specs.Depths.{landing}
use Rattle.op.specs.Effects.{effect_by, effect_of, taken_of, dead_maker}
use Rattle.op.specs.Opcodes.{table, known, row_of}
use Rattle.op.specs.Shapes.{shape_of, size_of}
use Rattle.code.specs.Bytes.{signed}
use Rattle.code.specs.Decode.{operand_in, step_in, shape_up_to, decode}
use Rattle.code.specs.Encode.{encode}
use Rattle.code.specs.Entries.{find_from, table_of}
use Rattle.code.specs.Flow.{goal_by, flow_of}
use Rattle.code.specs.Lookups.{covers_of, first_covering, handler_of}
use Rattle.code.specs.Reading.{instructions_from, read_up_to}
use Rattle.code.specs.Rows.{first}
use Rattle.code.specs.Tables.{put}
use Rattle.builder.specs.Marks.{bits, fits, mark_in, mark_of, markable, near}
use Rattle.builder.specs.Plan.{behind, emitting_of, enter_of, plan_of, sound_of}
use Rattle.builder.specs.Emission.{emit_core, emit_named}
use Rattle.builder.specs.Forward.{emit_jump_of, jump_plan_of}
use Rattle.builder.specs.Back.{emit_jump_to_of, jump_to_core, to_plan_of}
use Rattle.builder.specs.Patch.{mark_plan_of, patch_jump_of, patch_plan_of}
use Rattle.builder.specs.Constants.{add_const_of}
use Rattle.checker.specs.Cells.{held}
use Rattle.checker.proofs.Certificate.{certificate, must_accept, must_refuse}
use Rattle.examples.specs.Table.{Examples, code_a, code_k, from_zero}

pub hold : Examples
unfolding landing effect_by effect_of taken_of dead_maker table known row_of shape_of size_of signed operand_in decode step_in
    shape_up_to encode find_from table_of goal_by flow_of covers_of first_covering handler_of first put sound_of behind
    emitting_of enter_of plan_of emit_core emit_named mark_of mark_in fits markable near bits jump_plan_of emit_jump_of to_plan_of
    jump_to_core emit_jump_to_of mark_plan_of patch_plan_of patch_jump_of add_const_of held instructions_from read_up_to
    certificate
hold = record {
  a = λ d d' w w' r room space P. must_accept _ code_a from_zero (0 ∷ 1 ∷ 65536 ∷ 65536 ∷ 0 ∷ 65536 ∷ 1 ∷ 0 ∷ 1 ∷ 65536 ∷ []) 6 tt (omega arith) d d' w w' r room space P;
  b = (refl, λ code n. rw n refl);
  c = λ code n. (rw n refl, rw n refl, refl);
  d = λ code n. (rw n refl, rw n refl, refl);
  e = (λ names code m n. rw (m, n) refl, λ names code m n. (rw (m, n) refl, refl, rw n refl, rw n refl, refl));
  f = λ code n. (rw n refl, rw n refl, refl);
  g = (refl, refl, refl);
  h = (refl, refl, refl, refl, refl, refl, refl, refl);
  i = λ value cells n. (rw n refl, rw n refl, refl);
  j = λ code n. (rw n refl, rw n refl, rw n refl, rw n refl);
  k = (λ d d' w w' r room space P. must_refuse _ code_k from_zero 2 0 0 1 tt tt tt (λ e. omega arith) (omega arith) d d' w w' r room space P, refl);
  l = λ d d' w w' r room space P. must_accept _ [] [] (65536 ∷ []) 0 tt (omega arith) d d' w w' r room space P;
}
