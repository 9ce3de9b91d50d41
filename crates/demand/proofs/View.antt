-- What the theorem looks at of the state and the lent tables, and how a call moves it.
-- Assumes nothing.
use Rattle.std.specs.Prelude.{Ok, Some, None, Option}
use mathlib.Core.Path.{◌≡◌}
use mathlib.Core.Bool.{true}
use mathlib.Core.List.{List, [], ◌∷◌, ◌++◌}
use mathlib.Core.Option.{some as found}
use Prim.Native.Nat.{ℕ, zero, suc, ◌+◌, ◌*◌, ◌/◌, ◌%◌, ◌≤◌}
use lib.ListN.{length, take, get_or, set, get_elem?}
use Rattle.op.specs.Depths.{after_of, taken_depth_of}
use Rattle.op.specs.declared.Operand.{Operand}
use Rattle.op.specs.declared.Refusal.{Refusal}
use Rattle.code.specs.Decode.{names_in}
use Rattle.code.specs.Encode.{encode}
use Rattle.builder.specs.declared.Builder.{Builder}
use Rattle.builder.specs.declared.JumpLabel.TheVariants as L
use Rattle.builder.specs.declared.JumpTarget.{JumpTarget}
use Rattle.builder.specs.declared.JumpTarget.TheVariants as T
use Rattle.builder.specs.declared.marks.Mark.{Mark}
use Rattle.builder.specs.declared.marks.Mark.TheVariants.{Open, Patched, Target}
use Rattle.demand.specs.History.{Call, emit, emit_jump_call, emit_jump_to_call, patch_jump_call, jump_target_call, new_region, other, Given}
use Rattle.demand.specs.History.{no, ok, label, target}
use Rattle.code.specs.Tables.{start_cells, word_max, jump_size}
use Rattle.builder.specs.Plan.{behind}
use Rattle.builder.specs.Marks.{mark_at, near, bits, meets}
use Rattle.builder.specs.Forward.{unpatched}
use Rattle.builder.specs.Back.{jump_by}

-- the first n values of f
unfoldable pub tab : {A : Type 0} → ℕ → (ℕ → A) → List A
tab zero f = []
tab (suc n) f = tab n f ++ (f n ∷ [])

-- "Starts: two numbers a row": row i
abbrev pub start_at : List ℕ → ℕ → ℕ × ℕ
start_at starts i = (get_or starts (i * start_cells) 0, get_or starts (i * start_cells + 1) 0)

-- the used code, marks and starts, and the depth
pub record View : Type 0 where
  pub code : List ℕ
  pub marks : List Mark
  pub starts : List (ℕ × ℕ)
  pub depth : Option ℕ

abbrev pub view_of : Builder → List ℕ → List ℕ → List ℕ → View
view_of b code marks starts = record {
  code = take b.core.code code;
  marks = tab b.core.marks (mark_at marks);
  starts = tab b.starts (start_at starts);
  depth = b.core.depth;
}

-- how an answered call moves the view: refused, dead, or what was accepted
pub data Moved (v : View) : Call → Given → View → Type 0 where
  refused : {c : Call} {r : Refusal} → Moved v c (no r) v
  idle : Moved v other ok v
  dead_emit : {k : ℕ} {o : Operand} {ns : List ℕ} → v.depth ≡ None → Moved v (emit k o ns) ok v
  dead_jump : {k : ℕ} → v.depth ≡ None → Moved v (emit_jump_call k) (label L.Dead) v
  dead_to : {k : ℕ} {t : JumpTarget} → v.depth ≡ None → Moved v (emit_jump_to_call k t) ok v
  dead_patch : Moved v (patch_jump_call L.Dead) ok v
  dead_target : v.depth ≡ None → Moved v jump_target_call (target T.Dead) v
  emitted : {k : ℕ} {o : Operand} {ns : List ℕ} (d e : ℕ) → v.depth ≡ Some d → names_in o ≡ length ns → length ns ≤ 255
      → after_of d k o ≡ Ok e
      → Moved v (emit k o ns) ok
      (record { code = v.code ++ encode k o ns; marks = v.marks; starts = v.starts; depth = behind k e })
  labelled : {k : ℕ} (d e t : ℕ) → v.depth ≡ Some d → after_of d k unpatched ≡ Ok e → taken_depth_of d k ≡ Ok t
      → Moved v (emit_jump_call k) (label (L.Row (length v.marks)))
      (record {
        code = v.code ++ encode k unpatched [];
        marks = v.marks ++ (Open (length v.code) t ∷ []);
        starts = v.starts;
        depth = behind k e;
      })
  jumped : {k : ℕ} (d e i o t : ℕ) → v.depth ≡ Some d → after_of d k (jump_by (bits (length v.code) o)) ≡ Ok e
      → taken_depth_of d k ≡ Ok t
      → get_elem? v.marks i ≡ found (Target o t) → near (length v.code) o ≡ true
      → Moved v (emit_jump_to_call k (T.Row i)) ok
      (record {
        code = v.code ++ encode k (jump_by (bits (length v.code) o)) [];
        marks = v.marks;
        starts = v.starts;
        depth = behind k e;
      })
  patched : (i o d : ℕ) → get_elem? v.marks i ≡ found (Open o d) → d ≤ word_max → meets v.depth d ≡ true
      → near o (length v.code) ≡ true
      → o + jump_size ≤ length v.code
      → Moved v (patch_jump_call (L.Row i)) ok
      (record { code = set (set v.code (o + 1) (bits o (length v.code) % 256)) (o + 2) (bits o (length v.code) / 256); marks = set v.marks i (Patched o d); starts = v.starts; depth = Some d })
  spotted : (d : ℕ) → v.depth ≡ Some d
      → Moved v jump_target_call (target (T.Row (length v.marks)))
      (record {
        code = v.code;
        marks = v.marks ++ (Target (length v.code) d ∷ []);
        starts = v.starts;
        depth = v.depth;
      })
  opened : (d : ℕ) → v.depth ≡ None
      → Moved v (new_region d) ok
      (record {
        code = v.code;
        marks = v.marks;
        starts = v.starts ++ ((length v.code, d) ∷ []);
        depth = Some d;
      })
