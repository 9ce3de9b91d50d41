-- The builder's answers by number: for each case the refusal's number and what it names, or the value and the state.
-- Assumes nothing.
use Rattle.std.specs.Prelude.{ℕ, Ok, Err, Some, None, Result, Option}
use Rattle.op.specs.Refusals.{named_of, number_of}
use Rattle.op.specs.declared.Refusal.{Refusal}
use Rattle.builder.specs.declared.Builder.{Builder}
use Rattle.builder.specs.declared.JumpLabel.{JumpLabel}
use Rattle.builder.specs.declared.JumpLabel.TheVariants as L
use Rattle.builder.specs.declared.JumpTarget.{JumpTarget}
use Rattle.builder.specs.declared.JumpTarget.TheVariants as T

-- a depth: 65,536 is past the greatest
abbrev pub dead_depth : ℕ
dead_depth = 65536

-- R63
abbrev pub depth_number : Option ℕ → ℕ
depth_number None = dead_depth
depth_number (Some depth) = depth

-- a label or a target: its row, or the greatest number of 64 bits
abbrev pub dead_row : ℕ
dead_row = 18446744073709551615

-- R63
abbrev pub label_number : JumpLabel → ℕ
label_number L.Dead = dead_row
label_number (L.Row row) = row

abbrev pub target_number : JumpTarget → ℕ
target_number T.Dead = dead_row
target_number (T.Row row) = row

-- an answer: 0, a value and the state after the call; or a refusal's number and what it names
pub data Told : Type 0 where
  Accepts : (value : ℕ) (after : Builder) → Told
  Refuses : (number named : ℕ) → Told

abbrev pub refusal_told : Refusal → Told
refusal_told refusal = Refuses (number_of refusal) (named_of refusal)

-- a call that answers nothing but a state has the value 0
abbrev pub answer_told : Result Builder Refusal → Told
answer_told (Ok after) = Accepts 0 after
answer_told (Err refusal) = refusal_told refusal

abbrev pub jumped_told : Result (Builder × JumpLabel) Refusal → Told
jumped_told (Ok (after, label)) = Accepts (label_number label) after
jumped_told (Err refusal) = refusal_told refusal

abbrev pub targeted_told : Result (Builder × JumpTarget) Refusal → Told
targeted_told (Ok (after, target)) = Accepts (target_number target) after
targeted_told (Err refusal) = refusal_told refusal

-- the constant's index
abbrev pub added_told : Result (Builder × ℕ) Refusal → Told
added_told (Ok (after, index)) = Accepts index after
added_told (Err refusal) = refusal_told refusal
