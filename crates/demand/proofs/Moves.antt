-- The moves of the view where the used lengths are known, and what each table's store does to the view.
-- Assumes nothing.
use Rattle.std.specs.Prelude.{Ok, Some, None, Option}
use mathlib.Core.Path.{◌≡◌, sym, ap, ◌∙◌}
use mathlib.Core.Bool.{true}
use mathlib.Core.List.{[], ◌∷◌, ◌++◌}
use mathlib.Core.Option.{some as found}
use Prim.Native.Nat.{ℕ, ◌+◌, ◌/◌, ◌%◌, ◌≤◌}
use native.Mathlib.Omega.{arith}
use lib.ListN.{length, set, get_elem?}
use Rattle.op.specs.Depths.{after_of, taken_depth_of}
use Rattle.code.specs.Encode.{encode}
use Rattle.builder.specs.declared.JumpLabel.TheVariants as L
use Rattle.builder.specs.declared.JumpTarget.{JumpTarget}
use Rattle.builder.specs.declared.JumpTarget.TheVariants as T
use Rattle.builder.specs.declared.marks.Mark.TheVariants.{Open, Patched, Target}
use Rattle.code.specs.Tables.{word_max}
use Rattle.builder.specs.Plan.{behind}
use Rattle.builder.specs.Marks.{meets, bits, near}
use Rattle.builder.specs.Forward.{unpatched}
use Rattle.builder.specs.Back.{jump_by}
use Rattle.demand.proofs.View.{View, Moved}
use Rattle.demand.specs.History.{emit_jump_call, emit_jump_to_call, patch_jump_call, jump_target_call, new_region, ok, label, target}
use Rattle.demand.proofs.View.{labelled, jumped, patched, spotted, opened}

module _ (v : View) where
  pub labelled_at : (k d e t n p : ℕ) → length v.marks ≡ n → length v.code ≡ p → v.depth ≡ Some d
      → after_of d k unpatched ≡ Ok e
      → taken_depth_of d k ≡ Ok t
      → Moved v (emit_jump_call k) (label (L.Row n))
      (record {
        code = v.code ++ encode k unpatched [];
        marks = v.marks ++ (Open p t ∷ []);
        starts = v.starts;
        depth = behind k e;
      })
  labelled_at k d e t n p en ep h f g = rw (← en, ← ep) (labelled d e t h f g)

  pub jumped_at : (k d e i o t p w : ℕ) (x : JumpTarget) → x ≡ T.Row i → length v.code ≡ p → w ≡ bits p o
      → v.depth ≡ Some d → after_of d k (jump_by w) ≡ Ok e
      → taken_depth_of d k ≡ Ok t → get_elem? v.marks i ≡ found (Target o t) → near p o ≡ true
      → Moved v (emit_jump_to_call k x) ok
      (record {
        code = v.code ++ encode k (jump_by w) [];
        marks = v.marks;
        starts = v.starts;
        depth = behind k e;
      })
  jumped_at k d e i o t p w x ex ep ew h f g m c =
      let q : w ≡ bits (length v.code) o = ew ∙ ap (λ (y : ℕ). bits y o) (sym ep) in
      rw (ex, q) (jumped {k = k} d e i o t h (rw (← q) f) g m (rw ep c))

  pub patched_at : (i o d p w : ℕ) (a : Option ℕ) → a ≡ Some d → length v.code ≡ p → w ≡ bits o p
      → get_elem? v.marks i ≡ found (Open o d) → d ≤ word_max → meets v.depth d ≡ true
      → near o p ≡ true → o + 3 ≤ p
      → Moved v (patch_jump_call (L.Row i)) ok
      (record { code = set (set v.code (o + 1) (w % 256)) (o + 2) (w / 256); marks = set v.marks i (Patched o d); starts = v.starts; depth = a })
  patched_at i o d p w a ea ep ew m s h c l =
      let q : w ≡ bits o (length v.code) = ew ∙ ap (bits o) (sym ep) in
      rw (ea, q) (patched i o d m s h (rw ep c) (omega arith))

  pub spotted_at : (d n p : ℕ) → length v.marks ≡ n → length v.code ≡ p → v.depth ≡ Some d
      → Moved v jump_target_call (target (T.Row n))
      (record { code = v.code; marks = v.marks ++ (Target p d ∷ []); starts = v.starts; depth = v.depth })
  spotted_at d n p en ep h = rw (← en, ← ep) (spotted d h)

  pub opened_at : (d p : ℕ) → length v.code ≡ p → v.depth ≡ None
      → Moved v (new_region d) ok
      (record { code = v.code; marks = v.marks; starts = v.starts ++ ((p, d) ∷ []); depth = Some d })
  opened_at d p ep h = rw (← ep) (opened d h)
