-- What calls keep: a refused call changes no table, and calls that emit nothing leave what the view looks at.
-- Assumes nothing.
use Rattle.builder.specs.Patch.{PatchDecision}
use Rattle.builder.specs.Plan.{Decision}
use Rattle.std.specs.Prelude.{Ok, Err, Some, None, Option, Result}
use mathlib.Core.Path.{◌≡◌, refl, ap}
use mathlib.Core.Bool.{Bool, ◌&&◌}
use mathlib.Core.List.{List}
use Prim.Native.Nat.{ℕ, ◌+◌}
use lib.Dec.{leb, ltb, eqb}
use lib.ListN.{length}
use Rattle.base.proofs.Bools.{either}
use Rattle.op.specs.declared.Operand.{Operand}
use Rattle.op.specs.declared.Refusal.{Refusal}
use Rattle.op.specs.declared.Refusal.TheVariants.{TooLarge, NamesHeld, OpenLabel, Full, Unsound}
use Rattle.op.specs.declared.Table.TheVariants.{Exceptions, Names, Starts}
use Rattle.code.specs.Encode.{encode}
use Rattle.code.specs.declared.HandlerKind.{HandlerKind}
use Rattle.builder.specs.declared.Builder.{Builder}
use Rattle.builder.specs.declared.JumpLabel.{JumpLabel}
use Rattle.builder.specs.declared.JumpTarget.{JumpTarget}
use Rattle.code.specs.Tables.{word_max, exception_cells, mark_cells, start_cells, within, room}
use Rattle.builder.specs.Plan.{plan_of}
use Rattle.builder.specs.Emission.{commit_of, emit_core, outcome_by, emit_named}
use Rattle.builder.specs.Marks.{TargetOutcome, target_at, target_of}
use Rattle.builder.specs.Forward.{jump_plan_of, commit_jump, emit_jump_of}
use Rattle.builder.specs.Back.{to_plan_of, commit_to, jump_to_core, emit_jump_to_of}
use Rattle.builder.specs.Patch.{patch_plan_of, commit_patch, patch_jump_of}
use Rattle.builder.specs.State.{Kept, kept, unless, counts_of}
use Rattle.builder.specs.Marks.{any_open}
use Rattle.builder.specs.Regions.{fresh_at, new_of, region_at, region_of}
use Rattle.builder.specs.Constants.{AddedKept, add_const_of, with_constants}
use Rattle.builder.specs.Exceptions.{offsets_fit, with_exceptions, add_exception_of}
use Rattle.builder.specs.Names.{with_names, register_names_of, register_name_of, build_of}

-- refused: the tables are as they were

module _ (b : Builder) (r : Refusal) where
  module _ (k name : ℕ) (o : Operand) (ns code locs : List ℕ) where
    emit_by : (p : Decision) → (outcome_by b (commit_of p b.core b.location (encode k o ns) code locs)).answer
        ≡ Err r
        → ((commit_of p b.core b.location (encode k o ns) code locs).code ≡ code)
        × ((commit_of p b.core b.location (encode k o ns) code locs).locations ≡ locs)
    emit_by (Ok None) e = (refl, refl)
    emit_by (Err q) e = (refl, refl)
    emit_by (Ok (Some plan)) e = (cc, cc)

    pub emit_refused : (emit_named b k name o ns code locs).answer ≡ Err r
        → ((emit_named b k name o ns code locs).code ≡ code) × ((emit_named b k name o ns code locs).locations ≡ locs)
    unfolding emit_named emit_core
    emit_refused e = emit_by (plan_of b.core b.location k name o (length ns) (length code) (length locs)) e

  module _ (k : ℕ) (code locs marks : List ℕ) where
    jump_by_lem : (p : Decision) → (commit_jump p b k code locs marks).answer ≡ Err r
        → ((commit_jump p b k code locs marks).code ≡ code) × ((commit_jump p b k code locs marks).locations ≡ locs)
        × ((commit_jump p b k code locs marks).marks ≡ marks)
    jump_by_lem (Ok None) e = (refl, refl, refl)
    jump_by_lem (Err q) e = (refl, refl, refl)
    jump_by_lem (Ok (Some plan)) e = (cc, cc, cc)

    pub jump_refused : (emit_jump_of b k code locs marks).answer ≡ Err r
        → ((emit_jump_of b k code locs marks).code ≡ code) × ((emit_jump_of b k code locs marks).locations ≡ locs)
        × ((emit_jump_of b k code locs marks).marks ≡ marks)
    unfolding emit_jump_of
    jump_refused e = jump_by_lem (jump_plan_of b.core b.location k (length code) (length locs) (length marks)) e

    to_by : (p : Decision) → (outcome_by b (commit_to p b.core b.location k code locs)).answer ≡ Err r
        → ((commit_to p b.core b.location k code locs).code ≡ code)
        × ((commit_to p b.core b.location k code locs).locations ≡ locs)
    to_by (Ok None) e = (refl, refl)
    to_by (Err q) e = (refl, refl)
    to_by (Ok (Some plan)) e = (cc, cc)

    pub to_refused : (t : JumpTarget) → (emit_jump_to_of b k t code locs marks).answer ≡ Err r
        → ((emit_jump_to_of b k t code locs marks).code ≡ code) × ((emit_jump_to_of b k t code locs marks).locations ≡ locs)
    unfolding emit_jump_to_of jump_to_core
    to_refused t e = to_by (to_plan_of b.core b.location k t (length code) (length locs) marks) e

  module _ (l : JumpLabel) (code marks : List ℕ) where
    patch_by : (p : PatchDecision) → (commit_patch p b l code marks).answer ≡ Err r
        → ((commit_patch p b l code marks).code ≡ code) × ((commit_patch p b l code marks).marks ≡ marks)
    patch_by (Ok None) e = (refl, refl)
    patch_by (Err q) e = (refl, refl)
    patch_by (Ok (Some plan)) e = (cc, cc)

    pub patch_refused : (patch_jump_of b l code marks).answer ≡ Err r
        → ((patch_jump_of b l code marks).code ≡ code) × ((patch_jump_of b l code marks).marks ≡ marks)
    unfolding patch_jump_of
    patch_refused e = patch_by (patch_plan_of b.core l (length code) marks) e

-- what holds of both choices holds of a choice

module _ (b : Builder) (r : Refusal) (marks : List ℕ) where
  abbrev MarksKept : TargetOutcome → Type 0
  MarksKept x = x.answer ≡ Err r → x.marks ≡ marks

  target_at_lem : (d : Option ℕ) → MarksKept (target_at d b marks)
  target_at_lem None = λ e. refl
  target_at_lem (Some d) = either MarksKept (room mark_cells b.core.marks (length marks)) _ _ (λ e. cc) (λ e. refl)

  pub target_refused : MarksKept (target_of b marks)
  unfolding target_of
  target_refused =
      either MarksKept (counts_of b (within mark_cells b.core.marks (length marks))) _ _ (target_at_lem b.core.depth)
      (λ e. refl)

-- a call with one table
abbrev CellsKept : Refusal → List ℕ → Kept → Type 0
CellsKept r cells k = k.answer ≡ Err r → k.cells ≡ cells

module _ (r : Refusal) (cells : List ℕ) where
  passing : (t : Bool) (q : Refusal) (k : Kept) → CellsKept r cells k → CellsKept r cells (unless t q cells k)
  passing t q k h = either (CellsKept r cells) t k (kept (Err q) cells) h (λ e. refl)

  accepting : (b : Builder) (new : List ℕ) → CellsKept r cells (kept (Ok b) new)
  accepting b new e = cc

  pub new_kept : (told : Option ℕ) → CellsKept r cells (new_of told cells)
  unfolding new_of
  new_kept None = accepting (fresh_at None 0) cells
  new_kept (Some d) = passing (room start_cells 0 (length cells)) (Full Starts) _ (accepting _ _)

  module _ (b : Builder) where
    region_at_lem : (x : Option ℕ) (d : ℕ) → CellsKept r cells (region_at x b d cells)
    region_at_lem (Some e) d = λ q. refl
    region_at_lem None d = passing (room start_cells b.starts (length cells)) (Full Starts) _ (accepting _ _)

    pub region_refused : (d : ℕ) → CellsKept r cells (region_of b d cells)
    unfolding region_of
    region_refused d = passing (counts_of b (within start_cells b.starts (length cells))) Unsound
        _ (region_at_lem b.core.depth d)

    pub exception_refused : (start end handler depth count : ℕ) (kind : HandlerKind)
        → CellsKept r cells (add_exception_of b start end handler depth count kind cells)
    unfolding add_exception_of
    exception_refused start end handler depth count kind =
        passing (counts_of b (within exception_cells b.exceptions (length cells))) Unsound _
        (passing (offsets_fit start end handler) TooLarge _
        (passing (room exception_cells b.exceptions (length cells)) (Full Exceptions) _ (accepting _ _)))

    pub names_refused : (ns : List ℕ) → CellsKept r cells (register_names_of b ns cells)
    unfolding register_names_of
    names_refused ns =
        passing (counts_of b (leb b.names (length cells))) Unsound _
        (passing (eqb b.names 0) NamesHeld _
        (passing (leb (length ns) (length cells)) (Full Names) _ (accepting _ _)))

    pub name_refused : (slot name : ℕ) → CellsKept r cells (register_name_of b slot name cells)
    unfolding register_name_of
    name_refused slot name =
        passing (counts_of b (leb b.names (length cells))) Unsound _
        (either (CellsKept r cells) (ltb slot b.names) _ _ (accepting _ _)
        (passing (ltb slot (length cells)) (Full Names) _ (accepting _ _)))

    pub build_refused : (name : ℕ) (marks : List ℕ) → CellsKept r cells (build_of b name cells marks)
    unfolding build_of
    build_refused name marks =
        passing (counts_of b (leb b.names (length cells) && within mark_cells b.core.marks (length marks)))
        Unsound _
        (either (CellsKept r cells) (any_open b.core.marks marks) _ _ (λ e. refl) (accepting _ _))

-- other calls: what the view looks at stays

unfoldable pub SameCore : Builder → Kept → Type 0
SameCore b k = (n : Builder) → k.answer ≡ Ok n → (n.core ≡ b.core) × (n.starts ≡ b.starts)

module _ (b : Builder) (cells : List ℕ) where
  refusing : (q : Refusal) → SameCore b (kept (Err q) cells)
  unfolding SameCore
  refusing q n e = (cc, cc)

  staying : (m : Builder) (new : List ℕ) → m.core ≡ b.core → m.starts ≡ b.starts
      → SameCore b (kept (Ok m) new)
  unfolding SameCore
  staying m new p q n e =
      let h : m ≡ n = cc in
      (rw h at p, rw h at q)

  over : (t : Bool) (q : Refusal) (k : Kept) → SameCore b k → SameCore b (unless t q cells k)
  over t q k h = either (SameCore b) t k (kept (Err q) cells) h (refusing q)

  pub exception_same : (start end handler depth count : ℕ) (kind : HandlerKind)
      → SameCore b (add_exception_of b start end handler depth count kind cells)
  unfolding add_exception_of
  exception_same start end handler depth count kind =
      over (counts_of b (within exception_cells b.exceptions (length cells))) Unsound _
      (over (offsets_fit start end handler) TooLarge _
      (over (room exception_cells b.exceptions (length cells)) (Full Exceptions) _ (staying (with_exceptions b (b.exceptions + 1)) _ refl refl)))

  pub names_same : (ns : List ℕ) → SameCore b (register_names_of b ns cells)
  unfolding register_names_of
  names_same ns =
      over (counts_of b (leb b.names (length cells))) Unsound _
      (over (eqb b.names 0) NamesHeld _
      (over (leb (length ns) (length cells)) (Full Names) _ (staying (with_names b (length ns)) _ refl refl)))

  pub name_same : (slot name : ℕ) → SameCore b (register_name_of b slot name cells)
  unfolding register_name_of
  name_same slot name =
      over (counts_of b (leb b.names (length cells))) Unsound _
      (either (SameCore b) (ltb slot b.names) _ _ (staying b _ refl refl)
      (over (ltb slot (length cells)) (Full Names) _ (staying (with_names b (slot + 1)) _ refl refl)))

  pub build_same : (name : ℕ) (marks : List ℕ) → SameCore b (build_of b name cells marks)
  unfolding build_of
  build_same name marks =
      over (counts_of b (leb b.names (length cells) && within mark_cells b.core.marks (length marks))) Unsound _
      (either (SameCore b) (any_open b.core.marks marks) _ _ (refusing OpenLabel) (staying b _ refl refl))

-- add_const

module _ (b : Builder) (value : ℕ) (cells : List ℕ) where
  abbrev ConstKept : Refusal → AddedKept → Type 0
  ConstKept r k = k.answer ≡ Err r → k.cells ≡ cells

  pub const_refused : (r : Refusal) → ConstKept r (add_const_of b value cells)
  unfolding add_const_of
  const_refused r =
      either (ConstKept r) (counts_of b (leb b.constants (length cells))) _ _
      (either (ConstKept r) (leb b.constants word_max) _ _
      (either (ConstKept r) (ltb b.constants (length cells)) _ _ (λ e. cc) (λ e. refl))
      (λ e. refl))
      (λ e. refl)

  abbrev ConstSame : AddedKept → Type 0
  ConstSame k = (n : Builder) (i : ℕ) → k.answer ≡ Ok (n, i) → (n.core ≡ b.core) × (n.starts ≡ b.starts)

  made_same : (m n : Builder) (j i : ℕ) → m.core ≡ b.core → m.starts ≡ b.starts
      → ◌≡◌ {A = Result (Builder × ℕ) Refusal} (Ok (m, j)) (Ok (n, i)) → (n.core ≡ b.core) × (n.starts ≡ b.starts)
  made_same m n j i p q e =
      let both : ◌≡◌ {A = Builder × ℕ} (m, j) (n, i) = cc in
      let h : m ≡ n = ap (λ (x : Builder × ℕ). x.0) both in
      (rw h at p, rw h at q)

  pub const_same : ConstSame (add_const_of b value cells)
  unfolding add_const_of
  const_same =
      either ConstSame (counts_of b (leb b.constants (length cells))) _ _
      (either ConstSame (leb b.constants word_max) _ _
      (either ConstSame (ltb b.constants (length cells)) _ _
      (λ n i e. made_same (with_constants b (b.constants + 1)) n b.constants i refl refl e) (λ n i e. (cc, cc)))
      (λ n i e. (cc, cc)))
      (λ n i e. (cc, cc))
