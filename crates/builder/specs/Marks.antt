-- Marks, and how far a jump goes: R16, R24, R39, refusals 6, 13, 14, 17 and 19 (R27).
-- Assumes nothing.
use Rattle.op.specs.declared.Refusal.{Refusal}
use Rattle.std.specs.Prelude.{cond, ◌&&◌, Bool, true, false, ◌||◌, List, [], ◌∷◌, ℕ, ◌+◌, ◌*◌, ◌-◌, ◌%◌, zero, suc, leb, eqb, ltb, length, get_or, Ok, Err, Some, None, Result, Option}
use Rattle.op.specs.declared.Refusal.TheVariants.{Full, Unsound}
use Rattle.op.specs.declared.Table.TheVariants.{Marks}
use Rattle.builder.specs.declared.Builder.{Builder}
use Rattle.builder.specs.declared.Core.{Core}
use Rattle.builder.specs.declared.JumpTarget.{JumpTarget}
use Rattle.builder.specs.declared.JumpTarget.TheVariants as T
use Rattle.builder.specs.declared.marks.Mark.{Mark}
use Rattle.builder.specs.declared.marks.Mark.TheVariants.{Absent, Open, Patched, Target}
use Rattle.code.specs.Tables.{code_within, jump_size, mark_cells, push, room, within, word_max}
use Rattle.builder.specs.State.{counts_of, with_core, with_marks}

-- "1 open label, 2 patched label, 3 target"
abbrev pub open_kind : ℕ
open_kind = 1

abbrev pub patched_kind : ℕ
patched_kind = 2

abbrev pub target_kind : ℕ
target_kind = 3

-- a row's kind, "offset, depth, 0" (R24)
abbrev pub mark_row : (kind offset depth : ℕ) → List ℕ
mark_row kind offset depth = kind ∷ offset ∷ depth ∷ 0 ∷ []

-- R24
unfoldable pub mark_of : (kind offset depth : ℕ) → Mark
mark_of kind offset depth =
    cond (eqb kind open_kind) (Open offset depth)
    (cond (eqb kind patched_kind) (Patched offset depth)
    (cond (eqb kind target_kind) (Target offset depth) Absent))

-- the mark in a row
abbrev pub mark_at : (marks : List ℕ) (row : ℕ) → Mark
mark_at marks row =
    mark_of (get_or marks (row * mark_cells) 0) (get_or marks (row * mark_cells + 1) 0) (get_or marks (row * mark_cells + 2) 0)

-- the same, of the used rows
unfoldable pub mark_in : (rows : ℕ) (marks : List ℕ) (row : ℕ) → Mark
mark_in rows marks row = cond (ltb row rows) (mark_at marks row) Absent

-- one of two answers: for a target's mark, by its offset and depth, or for any other
abbrev pub of_target : {A : Type 0} → Mark → (ℕ → ℕ → A) → A → A
of_target Absent found none = none
of_target (Open offset depth) found none = none
of_target (Patched offset depth) found none = none
of_target (Target offset depth) found none = found offset depth

-- the mark that a target names
abbrev pub target_mark : JumpTarget → (rows : ℕ) (marks : List ℕ) → Mark
target_mark T.Dead rows marks = Absent
target_mark (T.Row row) rows marks = mark_in rows marks row

-- a depth up to 65,535, and a place within the code
unfoldable pub fits : (depth place code : ℕ) → Bool
fits depth place code = leb depth word_max && leb place code

-- 19, "its depth exceeds 65,535, or its place the code (offset and 3 for a label, offset for a target)" (R27)
abbrev pub mark_sound : (code : ℕ) → Mark → Bool
mark_sound code Absent = true
mark_sound code (Open offset depth) = fits depth (offset + jump_size) code
mark_sound code (Patched offset depth) = fits depth (offset + jump_size) code
mark_sound code (Target offset depth) = fits depth offset code

-- 19 of a call that is lent code and marks, each of so many cells
unfoldable pub markable : (core : Core) (code marks : ℕ) → Bool
markable core code marks =
    code_within core.code code && within mark_cells core.marks marks

-- "its target less the offset of its opcode less 3, from -32,768 to 32,767" (R16)
unfoldable pub near : (offset target : ℕ) → Bool
near offset target = leb (offset + jump_size) (target + 32768) && leb target (offset + jump_size + 32767)

-- its 16 bits, two's complement (R16)
unfoldable pub bits : (offset target : ℕ) → ℕ
bits offset target = (target + 65536 - (offset + jump_size)) % 65536

-- 11 of a patch, "a jump meets another depth": dead code has none
abbrev pub meets : (here : Option ℕ) (depth : ℕ) → Bool
meets None depth = true
meets (Some here) depth = eqb here depth

-- a label's depth revives dead code, and is never written over live code's
abbrev pub revived : (here : Option ℕ) (depth : ℕ) → Option ℕ
revived None depth = Some depth
revived (Some here) depth = Some here

-- the answer, and the marks as the call leaves them
pub record TargetOutcome : Type 0 where
  pub answer : Result (Builder × JumpTarget) Refusal
  pub marks : List ℕ

abbrev pub target_outcome : (answer : Result (Builder × JumpTarget) Refusal) (marks : List ℕ) → TargetOutcome
target_outcome answer marks = record { answer = answer; marks = marks }

-- 18, then a target's mark at the used end, with the offset and the depth here
abbrev pub target_at : Option ℕ → (builder : Builder) (marks : List ℕ) → TargetOutcome
target_at None builder marks = target_outcome (Ok (builder, T.Dead)) marks
target_at (Some here) builder marks =
    let core = builder.core in
    cond (room mark_cells core.marks (length marks))
    (target_outcome
    (Ok ((with_core builder (with_marks core (core.marks + 1))), (T.Row core.marks)))
    (push mark_cells core.marks (mark_row target_kind core.code here) marks))
    (target_outcome (Err (Full Marks)) marks)

-- "19, their own refusals, 18"; dead, nothing is wanted (R39)
unfoldable pub target_of : (builder : Builder) (marks : List ℕ) → TargetOutcome
target_of builder marks =
    cond (counts_of builder (within mark_cells builder.core.marks (length marks)))
    (target_at builder.core.depth builder marks)
    (target_outcome (Err Unsound) marks)

-- 17, "an open label": whether one of the first marks is
unfoldable pub any_open : (rows : ℕ) (marks : List ℕ) → Bool
any_open zero marks = false
any_open (suc row) marks = any_open row marks || eqb (get_or marks (row * mark_cells) 0) open_kind
