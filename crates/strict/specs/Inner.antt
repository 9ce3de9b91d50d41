-- What the private functions promise each other. s is the code, d or c the depth cells before a call, d' after it.
-- Assumes nothing.
use Rattle.std.specs.Prelude.{◌≡◌, List, ◌⊎◌, ℕ, suc, ◌≤◌, ◌<◌, length, get_or, replicate, Option, None, Some, Result, Ok, Err}
use Rattle.op.specs.Needs.{need_of}
use Rattle.op.specs.declared.Refusal.{Refusal}
use Rattle.op.specs.declared.Refusal.TheVariants.{NoDepths, TooFewValues}
use Rattle.code.specs.Tables.{no_depth}
use Rattle.checker.specs.declared.Assignment.{Assignment}
use Rattle.checker.specs.declared.Unmet.{Unmet}
use Rattle.checker.specs.declared.Unmet.TheVariants.{Refused, Unsolved}
use Rattle.checker.specs.Cells.{cell}
use Rattle.checker.specs.Promise.{Became}
use Rattle.strict.specs.declared.Unfit.{Unfit}
use Rattle.strict.specs.declared.Unfit.TheVariants as J

-- before n no cell holds less than the byte there needs
abbrev pub EnoughBefore : List ℕ → List ℕ → ℕ → Type 0
EnoughBefore s c n = (o : ℕ) → o < n → need_of (get_or s o 0) ≤ cell c o

-- at o the cell holds less than the byte needs, and at no offset before
pub record FirstAt (s c : List ℕ) (o : ℕ) : Type 0 where
  pub inside : o < length s
  pub less : cell c o < need_of (get_or s o 0)
  pub before : EnoughBefore s c o

-- r is the first offset of the code whose cell holds less than the byte there needs, if there is one
abbrev pub FirstShort : List ℕ → List ℕ → Option ℕ → Type 0
FirstShort s c (Some o) = FirstAt s c o
FirstShort s c None = EnoughBefore s c (length s)

-- 26 of the offset `at`, with what its cell holds, and no depth is left
pub record Shortened (s d d' : List ℕ) (at : ℕ) (r : Unfit) : Type 0 where
  pub answer : r ≡ J.TooFew at (get_or d at 0) (need_of (get_or s at 0))
  pub blank : Became s d d' (replicate (suc (length s)) no_depth)

-- the first cell that holds too little is at o
pub record ShortAt (s d d' : List ℕ) (r : Result Assignment Unfit) (o : ℕ) : Type 0 where
  pub first : FirstAt s d o
  pub answer : r ≡ Err (J.TooFew o (cell d o) (need_of (get_or s o 0)))
  pub blank : Became s d d' (replicate (suc (length s)) no_depth)

-- the depths d and the assignment a are accepted as they are; or 26, of the first cell that holds too little
abbrev pub Judged : (s d d' : List ℕ) → Assignment → Result Assignment Unfit → Type 0
Judged s d d' a r =
    (EnoughBefore s d (length s) × (r ≡ Ok a) × (d' ≡ d)) ⊎ ((o : ℕ) × ShortAt s d d' r o)

-- the old mode's answer where it accepts nothing
abbrev pub unfit_of : Unmet → Unfit
unfit_of (Refused q) = J.Refused q
unfit_of (Unsolved why) = J.Unsolved why

-- the refusal without the reason
abbrev pub refusal_of : Unfit → Refusal
refusal_of (J.Refused q) = q
refusal_of (J.Unsolved why) = NoDepths
refusal_of (J.TooFew at depth need) = TooFewValues at
