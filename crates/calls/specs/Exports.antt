-- What each export leaves: the builder's own outcome at the state that the cells hold. Cells that hold none: 19. An
-- argument that the builder's call cannot be given: 2. Neither changes anything.
-- Assumes nothing.
use Rattle.code.specs.declared.CodeRange.{CodeRange}
use Rattle.op.specs.declared.Refusal.{Refusal}
use Rattle.std.specs.Prelude.{◌≡◌, Bool, true, false, cond, List, [], ◌∷◌, ℕ, ◌+◌, ◌*◌, leb, length, Some, None, Option, Ok, Err, Result}
use Rattle.op.specs.Refusals.{answer_of, half}
use Rattle.op.specs.declared.Refusal.TheVariants.{Full, Unsound, WrongShape}
use Rattle.op.specs.declared.Table.TheVariants.{Text}
use Rattle.code.specs.Bytes.{front}
use Rattle.code.specs.declared.HandlerKind.{HandlerKind}
use Rattle.builder.specs.Answers.{Told, Accepts, Refuses, added_told, answer_told, depth_number, jumped_told, targeted_told}
use Rattle.builder.specs.Back.{emit_jump_to_of}
use Rattle.builder.specs.Constants.{AddedKept, add_const_of, added_kept}
use Rattle.builder.specs.Emission.{Outcome, outcome}
use Rattle.builder.specs.Exceptions.{add_exception_of}
use Rattle.builder.specs.Forward.{JumpOutcome, emit_jump_of, jump_outcome}
use Rattle.builder.specs.Locations.{position_of, with_location}
use Rattle.builder.specs.Marks.{TargetOutcome, target_of, target_outcome}
use Rattle.builder.specs.Names.{build_of, register_name_of, register_names_of}
use Rattle.builder.specs.Numbered.{numbered_of}
use Rattle.builder.specs.Patch.{PatchOutcome, patch_jump_of, patch_outcome}
use Rattle.builder.specs.Regions.{new_of, region_of}
use Rattle.builder.specs.State.{Kept, dead_of, kept, unless}
use Rattle.builder.specs.declared.Builder.{Builder}
use Rattle.calls.specs.State.{cells_of, core_of, depth_in, focus_in, kind_in, label_in, state_cells, state_in, target_in}

-- how an answer is told

-- 0, or the refusal's number and below it what it names
abbrev pub answer_to : Told → ℕ
answer_to (Accepts value after) = 0
answer_to (Refuses number named) = number * half + named

-- the state's cells behind a call; a refusal changes none (R64)
abbrev pub cells_left : Told → (cells : List ℕ) → List ℕ
cells_left (Accepts value after) cells = front (cells_of after value) cells
cells_left (Refuses number named) cells = cells

-- the same of a call that changes the core alone
abbrev pub core_left : Told → (cells : List ℕ) → List ℕ
core_left (Accepts value after) cells = front (core_of after.core value) cells
core_left (Refuses number named) cells = cells

-- R64
pub record Leaves (told : Told) (cells : List ℕ) (r : ℕ) (cells' : List ℕ) : Type 0 where
  pub answers : r ≡ answer_to told
  pub state : cells' ≡ cells_left told cells

pub record LeavesCore (told : Told) (cells : List ℕ) (r : ℕ) (cells' : List ℕ) : Type 0 where
  pub answers : r ≡ answer_to told
  pub state : cells' ≡ core_left told cells

-- and the lent tables

pub record KeptLeaves (x : Kept) (cells : List ℕ) (r : ℕ) (cells' table' : List ℕ) : Type 0 where
  pub left : Leaves (answer_told x.answer) cells r cells'
  pub table : table' ≡ x.cells

pub record AddedLeaves (x : AddedKept) (cells : List ℕ) (r : ℕ) (cells' table' : List ℕ) : Type 0 where
  pub left : Leaves (added_told x.answer) cells r cells'
  pub table : table' ≡ x.cells

pub record EmitLeaves (x : Outcome) (cells : List ℕ) (r : ℕ) (cells' code' locations' : List ℕ) : Type 0 where
  pub left : LeavesCore (answer_told x.answer) cells r cells'
  pub code : code' ≡ x.code
  pub locations : locations' ≡ x.locations

pub record JumpLeaves (x : JumpOutcome) (cells : List ℕ) (r : ℕ) (cells' code' locations' marks' : List ℕ)
    : Type 0 where
  pub left : LeavesCore (jumped_told x.answer) cells r cells'
  pub code : code' ≡ x.code
  pub locations : locations' ≡ x.locations
  pub marks : marks' ≡ x.marks

pub record PatchLeaves (x : PatchOutcome) (cells : List ℕ) (r : ℕ) (cells' code' marks' : List ℕ) : Type 0 where
  pub left : LeavesCore (answer_told x.answer) cells r cells'
  pub code : code' ≡ x.code
  pub marks : marks' ≡ x.marks

pub record TargetLeaves (x : TargetOutcome) (cells : List ℕ) (r : ℕ) (cells' marks' : List ℕ) : Type 0 where
  pub left : LeavesCore (targeted_told x.answer) cells r cells'
  pub marks : marks' ≡ x.marks

-- go on with what numbers hold, where they do

unfoldable pub held : {A : Type 0} → Option Builder → (none : A) → (Builder → A) → A
held None none on = none
held (Some builder) none on = on builder

unfoldable pub told_depth : {A : Type 0} → Option (Option ℕ) → (none : A) → ((Option ℕ) → A) → A
told_depth None none on = none
told_depth (Some depth) none on = on depth

unfoldable pub told_focus : {A : Type 0} → Option (Option CodeRange) → (none : A) → ((Option CodeRange) → A) → A
told_focus None none on = none
told_focus (Some focus) none on = on focus

unfoldable pub told_kind : {A : Type 0} → Option HandlerKind → (none : A) → (HandlerKind → A) → A
told_kind None none on = none
told_kind (Some kind) none on = on kind

-- the exports

-- tfb_new: what the cells hold does not matter, but there have to be enough
unfoldable pub new_in : (depth : ℕ) (cells starts : List ℕ) → Kept
new_in depth cells starts =
    unless (leb state_cells (length cells)) Unsound starts
    (told_depth (depth_in depth) (kept (Err WrongShape) starts) (λ (told : Option ℕ). new_of told starts))

-- tfb_set_location
unfoldable pub set_location_in : (start end flag from to : ℕ) (cells : List ℕ) → Result Builder Refusal
set_location_in start end flag from to cells =
    held (state_in cells) (Err Unsound) (λ (builder : Builder).
    told_focus (focus_in flag from to) (Err WrongShape) (λ (focus : Option CodeRange).
    Ok (with_location builder (Some (record { range = (record { start = start; end = end }); focus = focus })))))

-- tfb_emit (R64)
unfoldable pub emit_in : (call opcode a b c : ℕ) (names cells code locations : List ℕ) → Outcome
emit_in call opcode a b c names cells code locations =
    held (state_in cells) (outcome (Err Unsound) code locations) (λ (builder : Builder).
    numbered_of builder call opcode a b c names code locations)

-- tfb_emit_jump
unfoldable pub emit_jump_in : (opcode : ℕ) (cells code locations marks : List ℕ) → JumpOutcome
emit_jump_in opcode cells code locations marks =
    held (state_in cells) (jump_outcome (Err Unsound) code locations marks) (λ (builder : Builder).
    emit_jump_of builder opcode code locations marks)

-- tfb_patch_jump
unfoldable pub patch_jump_in : (label : ℕ) (cells code marks : List ℕ) → PatchOutcome
patch_jump_in label cells code marks =
    held (state_in cells) (patch_outcome (Err Unsound) code marks) (λ (builder : Builder).
    patch_jump_of builder (label_in label) code marks)

-- tfb_emit_jump_to
unfoldable pub emit_jump_to_in : (opcode target : ℕ) (cells code locations marks : List ℕ) → Outcome
emit_jump_to_in opcode target cells code locations marks =
    held (state_in cells) (outcome (Err Unsound) code locations) (λ (builder : Builder).
    emit_jump_to_of builder opcode (target_in target) code locations marks)

-- tfb_current_jump_target
unfoldable pub current_jump_target_in : (cells marks : List ℕ) → TargetOutcome
current_jump_target_in cells marks =
    held (state_in cells) (target_outcome (Err Unsound) marks) (λ (builder : Builder).
    target_of builder marks)

-- tfb_register_local_names
unfoldable pub register_local_names_in : (names cells table : List ℕ) → Kept
register_local_names_in names cells table =
    held (state_in cells) (kept (Err Unsound) table) (λ (builder : Builder).
    register_names_of builder names table)

-- tfb_register_local_name
unfoldable pub register_local_name_in : (slot name : ℕ) (cells table : List ℕ) → Kept
register_local_name_in slot name cells table =
    held (state_in cells) (kept (Err Unsound) table) (λ (builder : Builder).
    register_name_of builder slot name table)

-- tfb_add_const
unfoldable pub add_const_in : (value : ℕ) (cells constants : List ℕ) → AddedKept
add_const_in value cells constants =
    held (state_in cells) (added_kept (Err Unsound) constants) (λ (builder : Builder).
    add_const_of builder value constants)

-- tfb_add_exception_entry
unfoldable pub add_exception_in : (start end handler depth count kind : ℕ) (cells exceptions : List ℕ) → Kept
add_exception_in start end handler depth count kind cells exceptions =
    held (state_in cells) (kept (Err Unsound) exceptions) (λ (builder : Builder).
    told_kind (kind_in kind) (kept (Err WrongShape) exceptions) (λ (told : HandlerKind).
    add_exception_of builder start end handler depth count told exceptions))

-- tfb_new_code_region
unfoldable pub new_code_region_in : (depth : ℕ) (cells starts : List ℕ) → Kept
new_code_region_in depth cells starts =
    held (state_in cells) (kept (Err Unsound) starts) (λ (builder : Builder).
    region_of builder depth starts)

-- tfb_build
unfoldable pub build_in : (fill : ℕ) (cells names marks : List ℕ) → Kept
build_in fill cells names marks =
    held (state_in cells) (kept (Err Unsound) names) (λ (builder : Builder).
    build_of builder fill names marks)

-- tfb_look: `current_offset`, `stack_depth`, `is_dead`, `current_position`
abbrev pub flag_number : Bool → ℕ
flag_number true = 1
flag_number false = 0

abbrev pub look_of : Builder → List ℕ
look_of builder =
    builder.core.code ∷
    depth_number builder.core.depth ∷
    flag_number (dead_of builder.core.depth) ∷
    (position_of builder.location).start ∷ (position_of builder.location).end ∷ []

abbrev pub look_cells : ℕ
look_cells = 5

pub record Look : Type 0 where
  pub answer : ℕ
  pub out : List ℕ

abbrev pub look : (answer : ℕ) (out : List ℕ) → Look
look answer out = record { answer = answer; out = out }

-- 19, then 18
unfoldable pub look_in : (cells out : List ℕ) → Look
look_in cells out =
    held (state_in cells) (look (answer_of Unsound) out) (λ (builder : Builder).
    cond (leb look_cells (length out)) (look 0 (front (look_of builder) out)) (look (answer_of (Full Text)) out))
