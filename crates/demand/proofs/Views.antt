-- How each call moves the view that demand 3 looks at: from the models alone.
-- Assumes nothing.
use Rattle.builder.specs.Patch.{PatchDecision}
use Rattle.builder.specs.Plan.{Decision}
use Rattle.builder.specs.declared.Location.{Location}
use Rattle.std.specs.Prelude.{Ok, Err, Some, None, Option, Result}
use mathlib.Core.Path.{◌≡◌, refl, sym, ap, ◌∙◌}
use mathlib.Core.Bool.{Bool, true, false}
use mathlib.Core.List.{List, [], ◌∷◌, ◌++◌}
use mathlib.Core.Option.{some as found}
use Prim.Native.Nat.{ℕ, ◌+◌, ◌/◌, ◌≤◌}
use native.Mathlib.Omega.{arith}
use lib.ListN.{length, take}
use lib.Seq.{length-take-le}
use borrow.Author.Tests.{ltb-true, eqb-true}
use Rattle.base.proofs.Bools.{clash}
use Rattle.op.specs.declared.Operand.{Operand}
use Rattle.op.specs.declared.Refusal.{Refusal}
use Rattle.op.specs.declared.Refusal.TheVariants.{Full, Unsound}
use Rattle.op.specs.declared.Table.TheVariants.{Starts}
use Rattle.code.specs.Encode.{encode}
use Rattle.code.proofs.Inverse.{length_encode}
use Rattle.builder.specs.declared.Builder.{Builder}
use Rattle.builder.specs.declared.Core.{Core}
use Rattle.builder.specs.declared.JumpLabel.{JumpLabel}
use Rattle.builder.specs.declared.JumpLabel.TheVariants as L
use Rattle.builder.specs.declared.JumpTarget.{JumpTarget}
use Rattle.builder.specs.declared.marks.Mark.TheVariants.{Open, Target}
use Rattle.code.specs.Tables.{mark_cells, start_cells, within, room, put}
use Rattle.builder.specs.Plan.{plan_of}
use Rattle.builder.specs.Emission.{commit_of, emit_core, outcome_by, emit_named}
use Rattle.builder.specs.Marks.{open_kind, target_kind, mark_at, mark_in, mark_of, markable, meets, revived}
use Rattle.builder.specs.Forward.{unpatched, jump_plan_of, commit_jump, emit_jump_of}
use Rattle.builder.specs.Back.{jump_by}
use Rattle.builder.specs.Back.{to_plan_of, commit_to, jump_to_core, emit_jump_to_of}
use Rattle.builder.specs.Marks.{target_at, target_of}
use Rattle.builder.specs.Patch.{patch_guard, mark_plan_of, patch_plan_of, commit_patch, patch_jump_of}
use Rattle.builder.specs.State.{kept, unless, counts_of}
use Rattle.builder.specs.Regions.{fresh_at, new_of, region_at, region_of}
use Rattle.demand.specs.History.{born}
use Rattle.demand.specs.World.{given, after, given_jump, after_jump, given_target, after_target}
use Rattle.demand.proofs.View.{view_of, tab, Moved}
use Rattle.demand.specs.History.{emit, emit_jump_call, emit_jump_to_call, patch_jump_call, jump_target_call, new_region}
use Rattle.demand.proofs.View.{refused, dead_emit, dead_jump, dead_to, dead_patch, dead_target, emitted}
use Rattle.code.proofs.Putting.{take_put_all}
use Rattle.builder.proofs.Plans.{LiveGoes, plan_goes}
use Rattle.builder.proofs.JumpPlans.{mark_used, forward_goes, to_goes}
use Rattle.builder.proofs.PatchPlans.{markable_true, patch_goes}
use Rattle.demand.proofs.Tabs.{tab_length, tab_nth, marks_push, marks_patch, starts_push, code_patch}
use Rattle.demand.proofs.Idle.{guard_never, jump_idle, mark_busy, plan_idle, to_idle}
use Rattle.demand.proofs.Moves.{jumped_at, labelled_at, opened_at, patched_at, spotted_at}

-- emission

-- an instruction's bytes behind the used ones
module _ (c : Core) (l : Option Location) (d k : ℕ) (o : Operand) (ns : List ℕ) (word : ℕ) (code : List ℕ) (ll s : ℕ)
    (a : Option ℕ) (w : ℕ)
    (within : c.code ≤ length code) (g : LiveGoes c l d k o (length ns) word (length code) ll s a w) where
  pub code_grows : take (c.code + s) (put c.code (encode k o ns) code) ≡ take c.code code ++ encode k o ns
  code_grows =
      ap (λ (z : ℕ). take (c.code + z) (put c.code (encode k o ns) code))
      (g.size ∙ sym (length_encode k o ns g.count))
      ∙ take_put_all c.code (encode k o ns) code within

module _ (b : Builder) (k name : ℕ) (o : Operand) (ns code locs marks starts : List ℕ) where
  emit_by : (p : Decision) → plan_of b.core b.location k name o (length ns) (length code) (length locs) ≡ p
      → Moved (view_of b code marks starts) (emit k o ns)
      (given (outcome_by b (commit_of p b.core b.location (encode k o ns) code locs)).answer)
      (view_of (after (outcome_by b (commit_of p b.core b.location (encode k o ns) code locs)).answer b)
      (commit_of p b.core b.location (encode k o ns) code locs).code marks starts)
  emit_by (Ok None) e = dead_emit (plan_idle b.core b.location k name o (length ns) (length code) (length locs) e)
  emit_by (Err r) e = refused
  emit_by (Ok (Some plan)) e =
      let g = plan_goes b.core b.location k name o (length ns) (length code) (length locs)
      plan.size plan.word plan.after e in
      rw (
        code_grows b.core b.location g.here k o ns 0 code (length locs)
            plan.size plan.after plan.word g.sound.code g.goes,
        g.goes.depth,
      )
      (emitted g.here g.goes.next g.live g.goes.count g.goes.few g.goes.falls)

  -- every emitting call without a mark
  pub emit_moves : Moved (view_of b code marks starts) (emit k o ns) (given (emit_named b k name o ns code locs).answer)
      (view_of (after (emit_named b k name o ns code locs).answer b) (emit_named b k name o ns code locs).code marks
      starts)
  unfolding emit_named emit_core
  emit_moves = emit_by (plan_of b.core b.location k name o (length ns) (length code) (length locs)) refl

-- emit_jump

open_of : (x y : ℕ) → mark_of open_kind x y ≡ Open x y
unfolding mark_of
open_of x y = refl

target_of_lem : (x y : ℕ) → mark_of target_kind x y ≡ Target x y
unfolding mark_of
target_of_lem x y = refl

module _ (b : Builder) (k : ℕ) (code locs marks starts : List ℕ) where
  jump_by_lem : (p : Decision) → jump_plan_of b.core b.location k (length code) (length locs) (length marks) ≡ p
      → Moved (view_of b code marks starts) (emit_jump_call k) (given_jump (commit_jump p b k code locs marks).answer)
      (view_of (after_jump (commit_jump p b k code locs marks).answer b) (commit_jump p b k code locs marks).code
      (commit_jump p b k code locs marks).marks starts)
  jump_by_lem (Ok None) e = dead_jump (jump_idle b.core b.location k (length code) (length locs) (length marks) e)
  jump_by_lem (Err r) e = refused
  jump_by_lem (Ok (Some plan)) e =
      let c = b.core in
      let g = forward_goes c b.location k (length code) (length locs) (length marks)
      plan.size plan.word plan.after e in
      rw (
        code_grows c b.location g.here k unpatched [] plan.word code (length locs)
            plan.size plan.after plan.word g.sound.code g.goes,
        g.goes.depth,
        marks_push c.marks open_kind c.code plan.word marks (omega (arith, g.mark)),
        open_of c.code plan.word,
      )
      (labelled_at (view_of b code marks starts) k g.here g.goes.next plan.word c.marks c.code
      (tab_length c.marks (mark_at marks)) (length-take-le c.code code g.sound.code)
      g.live g.goes.falls g.taken)

  pub jump_moves : Moved (view_of b code marks starts) (emit_jump_call k) (given_jump (emit_jump_of b k code locs marks).answer)
      (view_of (after_jump (emit_jump_of b k code locs marks).answer b) (emit_jump_of b k code locs marks).code
      (emit_jump_of b k code locs marks).marks starts)
  unfolding emit_jump_of
  jump_moves = jump_by_lem (jump_plan_of b.core b.location k (length code) (length locs) (length marks)) refl

-- emit_jump_to

module _ (b : Builder) (k : ℕ) (t : JumpTarget) (code locs marks starts : List ℕ) where
  to_by : (p : Decision) → to_plan_of b.core b.location k t (length code) (length locs) marks ≡ p
      → Moved (view_of b code marks starts) (emit_jump_to_call k t)
      (given (outcome_by b (commit_to p b.core b.location k code locs)).answer)
      (view_of (after (outcome_by b (commit_to p b.core b.location k code locs)).answer b)
      (commit_to p b.core b.location k code locs).code marks starts)
  to_by (Ok None) e = dead_to (to_idle b.core b.location k t (length code) (length locs) marks e)
  to_by (Err r) e = refused
  to_by (Ok (Some plan)) e =
      let c = b.core in
      let g = to_goes c b.location k t (length code) (length locs) marks
      plan.size plan.word plan.after e in
      let u = mark_used c.marks marks g.row (Target g.offset g.depth) g.mark (λ n. clash cc) in
      rw (
        code_grows c b.location g.here k (jump_by plan.word) [] plan.word code (length locs)
            plan.size plan.after plan.word g.sound.code g.goes,
        g.goes.depth,
      )
      (jumped_at (view_of b code marks starts) k g.here g.goes.next g.row g.offset g.depth c.code plan.word t
      g.target (length-take-le c.code code g.sound.code) g.word
      g.live g.goes.falls g.taken (tab_nth c.marks (mark_at marks) g.row u.0 ∙ ap found u.1) g.close)

  pub to_moves : Moved (view_of b code marks starts) (emit_jump_to_call k t)
      (given (emit_jump_to_of b k t code locs marks).answer)
      (view_of (after (emit_jump_to_of b k t code locs marks).answer b) (emit_jump_to_of b k t code locs marks).code marks
      starts)
  unfolding emit_jump_to_of jump_to_core
  to_moves = to_by (to_plan_of b.core b.location k t (length code) (length locs) marks) refl

-- patch_jump

revived_live : (x : Option ℕ) (d : ℕ) → meets x d ≡ true → revived x d ≡ Some d
revived_live None d e = refl
revived_live (Some f) d e = ap Some (eqb-true f d e)

module _ (b : Builder) (code marks starts : List ℕ) where
  dead_by : (p : PatchDecision) → patch_guard (markable b.core (length code) (length marks)) Unsound (Ok None) ≡ p
      → Moved (view_of b code marks starts) (patch_jump_call L.Dead) (given (commit_patch p b L.Dead code marks).answer)
      (view_of (after (commit_patch p b L.Dead code marks).answer b) (commit_patch p b L.Dead code marks).code
      (commit_patch p b L.Dead code marks).marks starts)
  dead_by (Ok None) e = dead_patch
  dead_by (Err r) e = refused
  dead_by (Ok (Some plan)) e =
      absurd (guard_never (markable b.core (length code) (length marks)) _ plan.offset plan.word plan.after e)

  module _ (i : ℕ) where
    row_by : (p : PatchDecision) → markable b.core (length code) (length marks) ≡ true
        → mark_plan_of (mark_in b.core.marks marks i) b.core ≡ p
        → Moved (view_of b code marks starts) (patch_jump_call (L.Row i))
        (given (commit_patch p b (L.Row i) code marks).answer)
        (view_of (after (commit_patch p b (L.Row i) code marks).answer b) (commit_patch p b (L.Row i) code marks).code
        (commit_patch p b (L.Row i) code marks).marks starts)
    row_by (Ok None) sd e = absurd (mark_busy (mark_in b.core.marks marks i) b.core e)
    row_by (Err r) sd e = refused
    row_by (Ok (Some plan)) sd e =
        let c = b.core in
        let h = markable_true c (length code) (length marks) sd in
        let g = patch_goes c plan.offset plan.word plan.after (mark_in c.marks marks i) e in
        let u = mark_used c.marks marks i (Open plan.offset g.depth) g.mark (λ n. clash cc) in
        rw (
          code_patch code c.code plan.offset plan.word g.place h.code,
          marks_patch i plan.offset g.depth marks u.1 c.marks u.0 (omega (arith, h.rows)),
        )
        (patched_at (view_of b code marks starts) i plan.offset g.depth c.code plan.word plan.after
        (g.after ∙ revived_live c.depth g.depth g.meet) (length-take-le c.code code h.code)
        g.word
        (tab_nth c.marks (mark_at marks) i u.0 ∙ ap found u.1) g.small g.meet g.close g.place)

    row_any : (t : Bool) → markable b.core (length code) (length marks) ≡ t → (p : PatchDecision)
        → patch_guard t Unsound (mark_plan_of (mark_in b.core.marks marks i) b.core) ≡ p
        → Moved (view_of b code marks starts) (patch_jump_call (L.Row i))
        (given (commit_patch p b (L.Row i) code marks).answer)
        (view_of (after (commit_patch p b (L.Row i) code marks).answer b) (commit_patch p b (L.Row i) code marks).code
        (commit_patch p b (L.Row i) code marks).marks starts)
    row_any true sd p e = row_by p sd e
    row_any false sd p e = rw (sym e) refused

  label_by : (x : JumpLabel) (p : PatchDecision) → patch_plan_of b.core x (length code) marks ≡ p
      → Moved (view_of b code marks starts) (patch_jump_call x) (given (commit_patch p b x code marks).answer)
      (view_of (after (commit_patch p b x code marks).answer b) (commit_patch p b x code marks).code
      (commit_patch p b x code marks).marks starts)
  unfolding patch_plan_of
  label_by L.Dead p e = dead_by p e
  label_by (L.Row i) p e = row_any i (markable b.core (length code) (length marks)) refl p e

  pub patch_moves : (x : JumpLabel) → Moved (view_of b code marks starts) (patch_jump_call x)
      (given (patch_jump_of b x code marks).answer)
      (view_of (after (patch_jump_of b x code marks).answer b) (patch_jump_of b x code marks).code
      (patch_jump_of b x code marks).marks starts)
  unfolding patch_jump_of
  patch_moves x = label_by x (patch_plan_of b.core x (length code) marks) refl

-- current_jump_target and new_code_region, which are not lent the code: the count of its used bytes must be within it

module _ (b : Builder) (code marks starts : List ℕ) (fits : b.core.code ≤ length code) where
  spot_by : (x : Option ℕ) (t : Bool) → b.core.depth ≡ x → room mark_cells b.core.marks (length marks) ≡ t
      → Moved (view_of b code marks starts) jump_target_call (given_target (target_at x b marks).answer)
      (view_of (after_target (target_at x b marks).answer b) code (target_at x b marks).marks starts)
  spot_by None t ed et = dead_target ed
  spot_by (Some d) false ed et = rw et refused
  spot_by (Some d) true ed et =
      let c = b.core in
      rw (
        et,
        marks_push c.marks target_kind c.code d marks
            (omega (arith, ltb-true c.marks (length marks / mark_cells) et)),
        target_of_lem c.code d,
      )
      (spotted_at (view_of b code marks starts) d c.marks c.code (tab_length c.marks (mark_at marks))
      (length-take-le c.code code fits) ed)

  target_by : (t : Bool) → (counts_of b (within mark_cells b.core.marks (length marks))) ≡ t
      → Moved (view_of b code marks starts) jump_target_call (given_target (target_of b marks).answer)
      (view_of (after_target (target_of b marks).answer b) code (target_of b marks).marks starts)
  unfolding target_of
  target_by true e = rw e (spot_by b.core.depth (room mark_cells b.core.marks (length marks)) refl refl)
  target_by false e = rw e refused

  pub target_moves : Moved (view_of b code marks starts) jump_target_call (given_target (target_of b marks).answer)
      (view_of (after_target (target_of b marks).answer b) code (target_of b marks).marks starts)
  target_moves = target_by _ refl

  start_by : (d : ℕ) (x : Option ℕ) (t : Bool) → b.core.depth ≡ x → room start_cells b.starts (length starts) ≡ t
      → Moved (view_of b code marks starts) (new_region d) (given (region_at x b d starts).answer)
      (view_of (after (region_at x b d starts).answer b) code marks (region_at x b d starts).cells)
  start_by d (Some f) t ed et = refused
  start_by d None false ed et = rw et refused
  start_by d None true ed et =
      rw (
        et,
        starts_push b.starts b.core.code d starts
            (omega (arith, ltb-true b.starts (length starts / start_cells) et)),
      )
      (opened_at (view_of b code marks starts) d b.core.code (length-take-le b.core.code code fits) ed)

  region_by : (d : ℕ) (t : Bool) → counts_of b (within start_cells b.starts (length starts)) ≡ t
      → Moved (view_of b code marks starts) (new_region d) (given (region_of b d starts).answer)
      (view_of (after (region_of b d starts).answer b) code marks (region_of b d starts).cells)
  unfolding region_of
  region_by d true e = rw e (start_by d b.core.depth (room start_cells b.starts (length starts)) refl refl)
  region_by d false e = rw e refused

  pub region_moves : (d : ℕ) → Moved (view_of b code marks starts) (new_region d) (given (region_of b d starts).answer)
      (view_of (after (region_of b d starts).answer b) code marks (region_of b d starts).cells)
  region_moves d = region_by d _ refl

-- a new builder

pub made : (a b : Builder) → ◌≡◌ {A = Result Builder Refusal} (Ok a) (Ok b) → a ≡ b
made a b e = cc

pub new_view : (told : Option ℕ) (code marks starts : List ℕ) (b : Builder) → (new_of told starts).answer ≡ Ok b
    → view_of b code marks (new_of told starts).cells
    ≡ record { code = []; marks = []; starts = born told; depth = told }
unfolding new_of tab
new_view None code marks starts b e = rw (← made (fresh_at None 0) b e) refl
new_view (Some d) code marks starts b e = go (room start_cells 0 (length starts)) refl e
  where
    go : (t : Bool) → room start_cells 0 (length starts) ≡ t
        → (unless t (Full Starts) starts (kept (Ok (fresh_at (Some d) 1)) (put 0 (0 ∷ d ∷ []) starts))).answer ≡ Ok b
        → view_of b code marks (unless t (Full Starts) starts (kept (Ok (fresh_at (Some d) 1)) (put 0 (0 ∷ d ∷ []) starts))).cells
        ≡ record { code = []; marks = []; starts = born (Some d); depth = Some d }
    go true q e = rw (← made (fresh_at (Some d) 1) b e, starts_push 0 0 d starts (omega (arith, ltb-true 0 (length starts / start_cells) q))) refl
    go false q e = clash cc
