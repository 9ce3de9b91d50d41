-- Numbers tell the builder's answers apart: each refusal is found again by its number and what it names.
-- Assumes nothing.
use Rattle.std.specs.Prelude.{Ok, Err, Some, None}
use mathlib.Core.Path.{◌≡◌, refl, sym, ap, ◌∙◌}
use mathlib.Core.List.{List, [], ◌∷◌}
use Prim.Native.Nat.{ℕ}
use native.Mathlib.Omega.{arith}
use lib.ListN.{get_or}
use Rattle.op.specs.Refusals.{named_of, number_of}
use Rattle.op.specs.declared.Refusal.{Refusal}
use Rattle.op.specs.declared.Refusal.TheVariants as R
use Rattle.op.specs.declared.Table.{Table}
use Rattle.op.specs.declared.Table.TheVariants as T
use Rattle.builder.specs.declared.JumpLabel.{JumpLabel}
use Rattle.builder.specs.declared.JumpLabel.TheVariants as L
use Rattle.builder.specs.declared.JumpTarget.{JumpTarget}
use Rattle.builder.specs.declared.JumpTarget.TheVariants as M
use Rattle.builder.specs.Answers.{label_number, refusal_told, target_number}
use Rattle.builder.specs.Apart.{AddedApart, AnswersApart, DepthsApart, JumpedApart, LabelExact, RefusalExact}
use Rattle.builder.specs.Apart.{TargetExact, TargetedApart}

-- the refusals from 1 on, and the tables from 1 on

abbrev tables : List Table
tables = T.Code ∷ T.Code ∷ T.Locations ∷ T.Exceptions ∷ T.Constants ∷ T.Names ∷ T.Marks ∷ T.Starts ∷ T.Text ∷ []

abbrev refusals : ℕ → List Refusal
refusals named =
    R.NoDepths ∷ R.UnknownOpcode ∷ R.WrongShape ∷ R.NotAJump ∷ R.DepthBelowZero ∷ R.DepthTooLarge ∷ R.JumpTooFar ∷
    R.TooManyKeywords ∷ R.NameTooLarge ∷ R.TooManyConstants ∷ R.TooLarge ∷ R.DepthsDiffer ∷ R.DeadTarget ∷
    R.NoSuchMark ∷ R.AlreadyPatched ∷ R.RegionWhileLive ∷ R.NamesHeld ∷ R.OpenLabel ∷
    R.Full (get_or tables named T.Code) ∷ R.Unsound ∷ R.BadStarts ∷ R.ShortDepths ∷ R.NoDepths ∷ R.NoDepths ∷
    R.NotALine ∷ R.Disagrees ∷ []

abbrev back : ℕ → ℕ → Refusal
back number named = get_or (refusals named) number R.NoDepths

full_back : (t : Table) → back 18 (named_of (R.Full t)) ≡ R.Full t
full_back T.Code = refl
full_back T.Locations = refl
full_back T.Exceptions = refl
full_back T.Constants = refl
full_back T.Names = refl
full_back T.Marks = refl
full_back T.Starts = refl
full_back T.Text = refl

refusal_back : (r : Refusal) → RefusalExact r → back (number_of r) (named_of r) ≡ r
refusal_back R.UnknownOpcode h = refl
refusal_back (R.UnknownOpcodeAt offset) h = absurd ((h offset).0 refl)
refusal_back R.WrongShape h = refl
refusal_back R.NotAJump h = refl
refusal_back R.DepthBelowZero h = refl
refusal_back R.DepthTooLarge h = refl
refusal_back R.JumpTooFar h = refl
refusal_back R.TooManyKeywords h = refl
refusal_back R.NameTooLarge h = refl
refusal_back R.TooManyConstants h = refl
refusal_back R.TooLarge h = refl
refusal_back R.DepthsDiffer h = refl
refusal_back R.DeadTarget h = refl
refusal_back R.NoSuchMark h = refl
refusal_back R.AlreadyPatched h = refl
refusal_back R.RegionWhileLive h = refl
refusal_back R.NamesHeld h = refl
refusal_back R.OpenLabel h = refl
refusal_back (R.Full table) h = full_back table
refusal_back R.Unsound h = refl
refusal_back R.BadStarts h = refl
refusal_back R.ShortDepths h = refl
refusal_back (R.CutShort offset) h = absurd ((h offset).1 refl)
refusal_back R.NoDepths h = refl
refusal_back R.NotALine h = refl
refusal_back R.Disagrees h = refl
refusal_back (R.TooFewValues offset) h = absurd ((h offset).2 refl)

refusals_apart : (r s : Refusal) → RefusalExact r → RefusalExact s → refusal_told r ≡ refusal_told s → r ≡ s
refusals_apart r s hr hs e =
    let number : number_of r ≡ number_of s = cc in
    let named : named_of r ≡ named_of s = cc in
    let same : back (number_of r) (named_of r) ≡ back (number_of s) (named_of s) = rw (number, named) refl in
    sym (refusal_back r hr) ∙ same ∙ refusal_back s hs

pub depths_apart : DepthsApart
depths_apart None None hx hy e = refl
depths_apart None (Some d) hx hy e = absurd (omega arith)
depths_apart (Some d) None hx hy e = absurd (omega arith)
depths_apart (Some d) (Some d') hx hy e = ap Some e

labels_apart : (x y : JumpLabel) → LabelExact x → LabelExact y → label_number x ≡ label_number y → x ≡ y
labels_apart L.Dead L.Dead hx hy e = refl
labels_apart L.Dead (L.Row i) hx hy e = absurd (omega arith)
labels_apart (L.Row i) L.Dead hx hy e = absurd (omega arith)
labels_apart (L.Row i) (L.Row j) hx hy e = ap L.Row e

targets_apart : (x y : JumpTarget) → TargetExact x → TargetExact y → target_number x ≡ target_number y → x ≡ y
targets_apart M.Dead M.Dead hx hy e = refl
targets_apart M.Dead (M.Row i) hx hy e = absurd (omega arith)
targets_apart (M.Row i) M.Dead hx hy e = absurd (omega arith)
targets_apart (M.Row i) (M.Row j) hx hy e = ap M.Row e

pub answers_apart : AnswersApart
answers_apart (Ok b) (Ok b') hx hy e = cc
answers_apart (Ok b) (Err r) hx hy e = absurd (let z : ◌≡◌ {A = ℕ} 0 1 = cc in omega arith)
answers_apart (Err r) (Ok b) hx hy e = absurd (let z : ◌≡◌ {A = ℕ} 0 1 = cc in omega arith)
answers_apart (Err r) (Err s) hx hy e = ap Err (refusals_apart r s hx hy e)

pub jumped_apart : JumpedApart
jumped_apart (Ok (b, l)) (Ok (b', l')) hx hy e =
    let same : l ≡ l' = labels_apart l l' hx hy cc in
    cc
jumped_apart (Ok (b, l)) (Err r) hx hy e = absurd (let z : ◌≡◌ {A = ℕ} 0 1 = cc in omega arith)
jumped_apart (Err r) (Ok (b, l)) hx hy e = absurd (let z : ◌≡◌ {A = ℕ} 0 1 = cc in omega arith)
jumped_apart (Err r) (Err s) hx hy e = ap Err (refusals_apart r s hx hy e)

pub targeted_apart : TargetedApart
targeted_apart (Ok (b, t)) (Ok (b', t')) hx hy e =
    let same : t ≡ t' = targets_apart t t' hx hy cc in
    cc
targeted_apart (Ok (b, t)) (Err r) hx hy e = absurd (let z : ◌≡◌ {A = ℕ} 0 1 = cc in omega arith)
targeted_apart (Err r) (Ok (b, t)) hx hy e = absurd (let z : ◌≡◌ {A = ℕ} 0 1 = cc in omega arith)
targeted_apart (Err r) (Err s) hx hy e = ap Err (refusals_apart r s hx hy e)

pub added_apart : AddedApart
added_apart (Ok (b, i)) (Ok (b', i')) hx hy e = cc
added_apart (Ok (b, i)) (Err r) hx hy e = absurd (let z : ◌≡◌ {A = ℕ} 0 1 = cc in omega arith)
added_apart (Err r) (Ok (b, i)) hx hy e = absurd (let z : ◌≡◌ {A = ℕ} 0 1 = cc in omega arith)
added_apart (Err r) (Err s) hx hy e = ap Err (refusals_apart r s hx hy e)
