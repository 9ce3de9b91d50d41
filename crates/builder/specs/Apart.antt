-- Numbers tell the builder's answers apart: two answers with the same numbers and state are the same answer. Left out
-- are refusals that are read from code, whose offset is told modulo 2^32 (no call of the builder reads code), and a
-- label or a target in the row that stands for dead (no table has so many rows).
-- Assumes nothing.
use Rattle.builder.specs.declared.Builder.{Builder}
use Rattle.std.specs.Prelude.{◌≡◌, ℕ, ◌<◌, Ok, Err, Some, None, Result, Option}
use Rattle.op.specs.declared.Refusal.{Refusal}
use Rattle.op.specs.declared.Refusal.TheVariants.{UnknownOpcodeAt, CutShort, TooFewValues}
use Rattle.builder.specs.declared.JumpLabel.{JumpLabel}
use Rattle.builder.specs.declared.JumpLabel.TheVariants as L
use Rattle.builder.specs.declared.JumpTarget.{JumpTarget}
use Rattle.builder.specs.declared.JumpTarget.TheVariants as T
use Rattle.builder.specs.Answers.{added_told, answer_told, dead_depth, dead_row, depth_number, jumped_told}
use Rattle.builder.specs.Answers.{targeted_told}

-- what is told exactly

abbrev pub DepthExact : Option ℕ → Type 0
DepthExact None = Unit {0}
DepthExact (Some depth) = depth < dead_depth

abbrev pub LabelExact : JumpLabel → Type 0
LabelExact L.Dead = Unit {0}
LabelExact (L.Row row) = row < dead_row

abbrev pub TargetExact : JumpTarget → Type 0
TargetExact T.Dead = Unit {0}
TargetExact (T.Row row) = row < dead_row

abbrev pub RefusalExact : Refusal → Type 0
RefusalExact refusal =
    (offset : ℕ) → (refusal ≡ UnknownOpcodeAt offset → ⊥) × (refusal ≡ CutShort offset → ⊥)
    × (refusal ≡ TooFewValues offset → ⊥)

abbrev pub AnswerExact : Result Builder Refusal → Type 0
AnswerExact (Ok after) = Unit {0}
AnswerExact (Err refusal) = RefusalExact refusal

abbrev pub JumpedExact : Result (Builder × JumpLabel) Refusal → Type 0
JumpedExact (Ok (after, label)) = LabelExact label
JumpedExact (Err refusal) = RefusalExact refusal

abbrev pub TargetedExact : Result (Builder × JumpTarget) Refusal → Type 0
TargetedExact (Ok (after, target)) = TargetExact target
TargetedExact (Err refusal) = RefusalExact refusal

abbrev pub AddedExact : Result (Builder × ℕ) Refusal → Type 0
AddedExact (Ok (after, index)) = Unit {0}
AddedExact (Err refusal) = RefusalExact refusal

-- the laws

abbrev pub DepthsApart : Type 0
DepthsApart = (x y : Option ℕ) → DepthExact x → DepthExact y → depth_number x ≡ depth_number y → x ≡ y

abbrev pub AnswersApart : Type 0
AnswersApart = (x y : Result Builder Refusal) → AnswerExact x → AnswerExact y → answer_told x ≡ answer_told y → x ≡ y

abbrev pub JumpedApart : Type 0
JumpedApart = (x y : Result (Builder × JumpLabel) Refusal) → JumpedExact x → JumpedExact y → jumped_told x ≡ jumped_told y → x ≡ y

abbrev pub TargetedApart : Type 0
TargetedApart = (x y : Result (Builder × JumpTarget) Refusal) → TargetedExact x → TargetedExact y → targeted_told x ≡ targeted_told y → x ≡ y

abbrev pub AddedApart : Type 0
AddedApart = (x y : Result (Builder × ℕ) Refusal) → AddedExact x → AddedExact y → added_told x ≡ added_told y → x ≡ y
