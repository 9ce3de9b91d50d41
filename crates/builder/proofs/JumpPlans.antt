-- What follows where the plan of a jump goes ahead, and what such a plan comes to.
-- Assumes nothing.
use Rattle.builder.specs.Plan.{planned}
use Rattle.builder.specs.Plan.{Decision}
use Rattle.builder.specs.declared.Location.{Location}
use Rattle.op.specs.declared.Refusal.{Refusal}
use Rattle.std.specs.Prelude.{Ok, Err, Some, Result, Option}
use mathlib.Core.Path.{◌≡◌, refl, sym, ap, ◌∙◌}
use mathlib.Core.Bool.{Bool, true, false, cond, ◌&&◌}
use mathlib.Core.List.{List}
use Prim.Native.Nat.{ℕ, ◌+◌, ◌/◌, ◌≤◌, ◌<◌}
use lib.Dec.{leb, ltb, eqb}
use lib.IntN.{ℤ}
use lib.ListN.{length}
use borrow.Author.Tests.{leb-true, ltb-true, eqb-true}
use Rattle.base.proofs.Bools.{and_true}
use Rattle.op.specs.Depths.{taken_depth_of}
use Rattle.op.specs.declared.Operand.TheVariants.{Offset}
use Rattle.op.specs.declared.Refusal.TheVariants.{Unsound}
use Rattle.op.specs.declared.Table.TheVariants.{Locations, Marks}
use Rattle.code.specs.Bytes.{signed}
use Rattle.builder.specs.declared.Builder.{Builder}
use Rattle.builder.specs.declared.Core.{Core}
use Rattle.builder.specs.declared.JumpTarget.{JumpTarget}
use Rattle.builder.specs.declared.JumpTarget.TheVariants as T
use Rattle.builder.specs.declared.marks.Mark.{Mark}
use Rattle.builder.specs.declared.marks.Mark.TheVariants.{Absent, Target}
use Rattle.code.specs.Tables.{mark_cells, room, within}
use Rattle.builder.specs.Locations.{row_fits}
use Rattle.builder.specs.Marks.{bits, mark_at, mark_in, mark_sound, near, target_mark}
use Rattle.builder.specs.Plan.{Back, ask_sound, emitting_of, enter_of, sound_of}
use Rattle.builder.specs.Forward.{commit_jump, emit_jump_of, jump_asked, jump_plan_of, unpatched}
use Rattle.builder.specs.Back.{commit_to, jump_by, jump_to_core, to_asked, to_plan_of}
use Rattle.builder.specs.Inner.{Goes, JumpGoes, Lives, Sound, also_row, bytes_of}
use Rattle.builder.proofs.Plans.{Aims, LineGoes, LiveGoes, also_free, goes_by, line_enters, line_goes, line_live}

-- what a plan comes to

pub emitted_jump : (b : Builder) (k : ℕ) (code locs marks : List ℕ) (p : Decision)
    → jump_plan_of b.core b.location k (length code) (length locs) (length marks) ≡ p
    → commit_jump p b k code locs marks ≡ emit_jump_of b k code locs marks
unfolding emit_jump_of
emitted_jump b k code locs marks p e = sym (ap (λ (q : Decision). commit_jump q b k code locs marks) e)

pub jumped_to : (c : Core) (l : Option Location) (k : ℕ) (t : JumpTarget) (code locs marks : List ℕ) (p : Decision)
    → to_plan_of c l k t (length code) (length locs) marks ≡ p
    → commit_to p c l k code locs ≡ jump_to_core c l k t code locs marks
unfolding jump_to_core
jumped_to c l k t code locs marks p e = sym (ap (λ (q : Decision). commit_to q c l k code locs) e)

-- tests

pub near_true : (o t : ℕ) → near o t ≡ true → (o + 3 ≤ t + 32768) × (t ≤ o + 3 + 32767)
unfolding near
near_true o t e = let p = and_true (leb (o + 3) (t + 32768)) (leb t (o + 3 + 32767)) e in
    (leb-true _ _ p.0, leb-true _ _ p.1)

-- a mark that is there is in a used row
pub mark_used : (rows : ℕ) (marks : List ℕ) (i : ℕ) (m : Mark) → mark_in rows marks i ≡ m → (m ≡ Absent → ⊥)
    → (i < rows) × (mark_at marks i ≡ m)
unfolding mark_in
mark_used rows marks i m e n = go (ltb i rows) refl e
  where
    go : (t : Bool) → ltb i rows ≡ t → cond t (mark_at marks i) Absent ≡ m → (i < rows) × (mark_at marks i ≡ m)
    go true q h = (ltb-true i rows q, h)
    go false q h = absurd (n (sym h))

-- a jump forward

pub record ForwardGoes (c : Core) (l : Option Location) (k cl ll ml s : ℕ) (a : Option ℕ) (w : ℕ) : Type 0 where
  pub sound : Sound c cl ll
  pub mark : c.marks < ml / mark_cells
  pub here : ℕ
  pub live : c.depth ≡ Some here
  pub taken : taken_depth_of here k ≡ Ok w
  pub goes : LiveGoes c l here k unpatched 0 w cl ll s a w

module _ (c : Core) (l : Option Location) (k cl ll ml : ℕ) where
  -- what is decided in parts, live
  pub ahead_live : (h t : ℕ) → Lives (jump_asked c l k cl ll ml) h → taken_depth_of h k ≡ Ok t
      → jump_plan_of c l k cl ll ml
      ≡ also_row (also_row (bytes_of c.code h k unpatched 0 t cl) (row_fits l c.locations ll) Locations)
      (room mark_cells c.marks ml) Marks
  unfolding jump_plan_of
  ahead_live h t e e2 = line_live (jump_asked c l k cl ll ml) h t e e2 refl refl refl

  pub forward_goes : (s w : ℕ) (a : Option ℕ) → jump_plan_of c l k cl ll ml ≡ Ok (Some (planned a w s)) → ForwardGoes c l k cl ll ml s a w
  unfolding jump_plan_of
  forward_goes s w a e =
      let g = line_goes (jump_asked c l k cl ll ml) a w s e in
      let same : g.taken ≡ w = sym g.goes.same in
      record {
        sound = g.sound;
        mark = ltb-true _ _ g.mark;
        here = g.here;
        live = g.enters.live;
        taken = g.takes ∙ ap Ok same;
        goes = rw same at g.goes;
      }

  pub jump_goes : (s w : ℕ) (a : Option ℕ) → jump_plan_of c l k cl ll ml ≡ Ok (Some (planned a w s)) → JumpGoes c l k cl ll ml s
  jump_goes s w a e =
      let g = forward_goes s w a e in
      record {
        goes = goes_by c l cl ll g.here k unpatched 0 w s w a g.sound g.goes;
        size = g.goes.size;
        mark = g.mark;
      }

-- a jump to a target

pub record ToGoes (c : Core) (l : Option Location) (k : ℕ) (t : JumpTarget) (cl ll : ℕ) (marks : List ℕ) (s : ℕ) (a : Option ℕ)
    (w : ℕ) : Type 0 where
  pub sound : Sound c cl ll
  pub here : ℕ
  pub live : c.depth ≡ Some here
  pub row : ℕ
  pub target : t ≡ T.Row row
  pub offset : ℕ
  pub depth : ℕ
  pub mark : mark_in c.marks marks row ≡ Target offset depth
  pub taken : taken_depth_of here k ≡ Ok depth
  pub close : near c.code offset ≡ true
  pub word : w ≡ bits c.code offset
  pub goes : LiveGoes c l here k (jump_by w) 0 w cl ll s a w

-- what is decided in parts, live, at a target's mark
pub back_live : (c : Core) (l : Option Location) (k i cl ll ml h e o f : ℕ) (m : Mark)
    → Lives (to_asked c l k (T.Row i) m cl ll ml) h → taken_depth_of h k ≡ Ok e
    → m ≡ Target o f → eqb e f ≡ true → near c.code o ≡ true
    → emitting_of (to_asked c l k (T.Row i) m cl ll ml)
    ≡ also_row (bytes_of c.code h k (jump_by (bits c.code o)) 0 (bits c.code o) cl)
    (row_fits l c.locations ll) Locations
back_live c l k i cl ll ml h e o f m lives takes em meet close =
    rw em (line_live (to_asked c l k (T.Row i) (Target o f) cl ll ml) h e (rw em at lives) takes refl meet close
    ∙ also_free _)

-- the mark that was read is the target's
pub at_mark : (c : Core) (l : Option Location) (k i cl ll : ℕ) (marks : List ℕ) (m : Mark) → m ≡ mark_in c.marks marks i
    → emitting_of (to_asked c l k (T.Row i) m cl ll (length marks)) ≡ to_plan_of c l k (T.Row i) cl ll marks
unfolding to_plan_of
at_mark c l k i cl ll marks m e = rw e refl

-- 19, once the counts are known to be sound or not

counts_false : (m r s : Bool) → (r && s) ≡ false → ((m && r) && s) ≡ false
counts_false true r s e = e
counts_false false r s e = refl

counts_true : (m r s : Bool) → (r && s) ≡ true → ((m && r) && s) ≡ m
counts_true true r s e = e
counts_true false r s e = refl

module _ (c : Core) (l : Option Location) (k : ℕ) (t : JumpTarget) (m : Mark) (cl ll ml : ℕ) where
  abbrev sound_counts : Bool
  sound_counts = within mark_cells c.marks ml && sound_of c cl ll

  pub to_unsound : sound_counts ≡ false → emitting_of (to_asked c l k t m cl ll ml) ≡ Err Unsound
  unfolding enter_of
  to_unsound e =
      line_enters (to_asked c l k t m cl ll ml) (Err Unsound)
      (rw (counts_false (mark_sound c.code m) (within mark_cells c.marks ml) (sound_of c cl ll) e) refl)

  pub to_enters : (x : Result (Option ℕ) Refusal) → sound_counts ≡ true → enter_of (mark_sound c.code m) k 0 c.depth ≡ x
      → enter_of (ask_sound (to_asked c l k t m cl ll ml)) k 0 c.depth ≡ x
  to_enters x e h = rw (counts_true (mark_sound c.code m) (within mark_cells c.marks ml) (sound_of c cl ll) e) h

module _ (c : Core) (l : Option Location) (k : ℕ) (t : JumpTarget) (cl ll : ℕ) (marks : List ℕ) (s w : ℕ) (a : Option ℕ) where
  by_mark : (m : Mark) → target_mark t c.marks marks ≡ m → LineGoes (to_asked c l k t m cl ll (length marks)) a w s
      → Aims (Back t m)
      → ToGoes c l k t cl ll marks s a w
  by_mark m em g (i, (o, (d, (et, eo)))) =
      let same : bits c.code o ≡ w = sym (rw eo at g.goes.same) in
      record {
        sound = g.sound;
        here = g.here;
        live = g.enters.live;
        row = i;
        target = et;
        offset = o;
        depth = d;
        mark = rw et at (em ∙ eo);
        taken = g.takes ∙ ap Ok (eqb-true g.taken d (rw eo at g.meet));
        close = rw eo at g.close;
        word = sym same;
        goes = rw (eo, same) at g.goes;
      }

  pub to_goes : to_plan_of c l k t cl ll marks ≡ Ok (Some (planned a w s)) → ToGoes c l k t cl ll marks s a w
  unfolding to_plan_of
  to_goes e =
      let m = target_mark t c.marks marks in
      let g = line_goes (to_asked c l k t m cl ll (length marks)) a w s e in
      by_mark m refl g g.aims

  -- what the writer asks for, whichever way the displacement is written
  pub to_writes : (z : ℤ) → z ≡ signed 65536 w → to_plan_of c l k t cl ll marks ≡ Ok (Some (planned a w s)) → Goes c l k (Offset z) 0 cl ll
  to_writes z ez e =
      let g = to_goes e in
      rw ez (goes_by c l cl ll g.here k (jump_by w) 0 w s w a g.sound g.goes)

-- the same plan, whichever way the displacement is written
pub same_jump : (at h k cl : ℕ) (z : ℤ) (v w : ℕ) → z ≡ signed 65536 w → v ≡ w
    → bytes_of at h k (Offset z) 0 v cl ≡ bytes_of at h k (jump_by w) 0 w cl
same_jump at h k cl z v w ez ev = rw (ez, ev) refl
