-- The numbers that cells hold, and what they say by a shape, as the code finds it.
-- Assumes nothing.
use Rattle.std.specs.Prelude.{Option}
use Rattle.std.proofs.lemmas.Grind.{get_or_default_zero}
use Rattle.std.specs.Prelude.{Some, None}
use mathlib.Core.Path.{◌≡◌, refl, sym, ap, ◌∙◌}
use mathlib.Core.Bool.{Bool, true, false, cond}
use mathlib.Core.List.{List, [], ◌∷◌}
use Prim.Native.Nat.{ℕ, zero, suc, ◌-◌, ◌≤◌, ◌<◌}
use native.Mathlib.Decide.{dec_lt}
use native.Mathlib.Omega.{arith}
use lib.Dec.{leb, eqb}
use lib.IntN.{ℤ, pos}
use lib.ListN.{length, get_or, drop, length-drop}
use borrow.Author.Tests.{le-leb, leb-true, eq-eqb, eqb-true, eqb-false, ne_eqb}
use Rattle.base.proofs.Bools.{clash}
use Rattle.op.specs.declared.Operand.{Operand}
use Rattle.op.specs.declared.Operand.TheVariants as O
use Rattle.op.specs.declared.Shape.TheVariants as S
use Rattle.text.specs.Reading.{only_if}
use Rattle.text.specs.Row.{wholes}
use Rattle.readback.specs.Operands.{said, and_then, first, plain_at, ends, named}
use Rattle.readback.specs.Operands.{operand_for}
use Rattle.readback.specs.Inner.{spoken_with, whole, sign_first, spoken_of, spoken_by, told_of}
use Rattle.readback.proofs.Saying.{Words, words_back}

-- cells as whole numbers

pub length_wholes : (ns : List ℕ) → length (wholes ns) ≡ length ns
length_wholes [] = refl
length_wholes (n ∷ ns) = ap suc (length_wholes ns)

pub length_signs : (minus : Bool) (ms : List ℕ) → length (sign_first minus ms) ≡ length ms
length_signs minus [] = refl
length_signs minus (m ∷ ms) = ap suc (length_wholes ms)

first_wholes : (ns : List ℕ) (i : ℕ) → i < length ns → first (drop i (wholes ns)) ≡ Some (pos (get_or ns i 0))
first_wholes [] i h = absurd (omega arith)
first_wholes (n ∷ ns) zero h = refl
first_wholes (n ∷ ns) (suc i) h = first_wholes ns i (omega arith)

pub none_past : (zs : List ℤ) (i : ℕ) → length zs ≤ i → first (drop i zs) ≡ None
none_past [] zero h = refl
none_past [] (suc i) h = refl
none_past (z ∷ zs) zero h = absurd (omega arith)
none_past (z ∷ zs) (suc i) h = none_past zs i (omega arith)

-- only the first has a sign
abbrev sign_at : Bool → ℕ → Bool
sign_at minus zero = minus
sign_at minus (suc i) = false

first_signs : (minus : Bool) (ms : List ℕ) (i : ℕ) → i < length ms
    → first (drop i (sign_first minus ms)) ≡ Some (whole (sign_at minus i) (get_or ms i 0))
first_signs minus [] i h = absurd (omega arith)
first_signs minus (m ∷ ms) zero h = refl
first_signs minus (m ∷ ms) (suc i) h = first_wholes ms i (omega arith)

drop_wholes : (ns : List ℕ) (i : ℕ) → drop i (wholes ns) ≡ wholes (drop i ns)
drop_wholes ns zero = refl
drop_wholes [] (suc i) = refl
drop_wholes (n ∷ ns) (suc i) = drop_wholes ns i

pub drop_signs : (minus : Bool) (ms : List ℕ) (i : ℕ) → drop (suc i) (sign_first minus ms) ≡ wholes (drop (suc i) ms)
drop_signs minus [] i = refl
drop_signs minus (m ∷ ms) i = drop_wholes ms i

-- each cell holds a word
words_of : (ms : List ℕ) → ((i : ℕ) → get_or ms i 0 < 65536) → Words ms
words_of [] h = tt
words_of (m ∷ ms) h = (h 0, words_of ms (λ i. h (suc i)))

words_drop : (ms : List ℕ) (i : ℕ) → Words ms → Words (drop i ms)
words_drop ms zero w = w
words_drop [] (suc i) w = tt
words_drop (m ∷ ms) (suc i) w = words_drop ms i w.1

-- what the code finds at a place
pub number_there : (minus : Bool) (ms : List ℕ) (i other : ℕ) → i < length ms → (minus ≡ true → i ≡ 0 → ⊥)
    → Some (pos (get_or ms i other)) ≡ first (drop i (sign_first minus ms))
number_there minus ms i other h n =
    ap (λ (m : ℕ). Some (pos m)) (get_or_default_zero ms i other h)
    ∙ sym (first_signs minus ms i h ∙ ap (λ (b : Bool). Some (whole b (get_or ms i 0))) (by minus i n))
  where
    by : (m : Bool) (i : ℕ) → (m ≡ true → i ≡ 0 → ⊥) → sign_at m i ≡ false
    by true zero n = absurd (n refl refl)
    by false zero n = refl
    by m (suc i) n = refl

module _ (count : ℕ) where
  -- no number behind them
  ended : (places : ℕ) (o : Operand) (zs : List ℤ) → length zs ≡ count
      → spoken_of count (ends places zs o) ≡ told_of o places 0 count
  unfolding ends spoken_of
  ended places o zs l = rw l (by (eqb count places) refl)
    where
      other : eqb count places ≡ false → (b : Bool) → leb places count ≡ b
          → None ≡ cond b (cond (eqb (count - places) 0) (Some (spoken_with o places)) None) None
      other e true h =
          rw (ne_eqb (count - places) 0 (λ z. eqb-false count places e (omega (arith, leb-true places count h))))
      other e false h = refl

      by : (b : Bool) → eqb count places ≡ b → spoken_of count (only_if b (said o [])) ≡ told_of o places 0 count
      by true e =
          let same = eqb-true count places e in
          rw (le-leb places count (omega arith), eq-eqb (count - places) 0 (omega arith)) (ap (λ (n : ℕ). Some (spoken_with o n)) (omega arith))
      by false e = other e (leb places count) refl

-- a shape without numbers
pub none_says : (minus : Bool) (ms : List ℕ) → spoken_by S.None minus ms ≡ told_of O.None 0 0 (length ms)
unfolding operand_for
none_says minus ms = ended (length ms) 0 O.None (sign_first minus ms) (length_signs minus ms)

-- or as many names as are counted
counted : (o : Operand) (minus : Bool) (ms : List ℕ) (i n : ℕ) → i < length ms → Words ms
    → spoken_of (length ms) (named (suc i) n (sign_first minus ms) o) ≡ told_of o (suc i) n (length ms)
unfolding named and_then spoken_of
counted o minus ms i n h w =
    let names = drop (suc i) ms in
    rw (le-leb (suc i) (length ms) h, drop_signs minus ms i, words_back names (words_drop ms (suc i) w))
    (rw (length-drop (suc i) ms) (by (eqb (length ms - suc i) n)))
  where
    by : (b : Bool) → spoken_of (length ms) (only_if b (said o (drop (suc i) ms))) ≡ cond b (Some (spoken_with o (suc i))) None
    by true = ap (λ (n : ℕ). Some (spoken_with o n)) (omega (arith, length-drop (suc i) ms))
    by false = refl

-- no number, or as many names as are counted, behind those of the fields
pub end : (minus : Bool) (ms : List ℕ) (places : ℕ) (o : Operand)
    → spoken_of (length ms) (ends places (sign_first minus ms) o) ≡ told_of o places 0 (length ms)
end minus ms places o = ended (length ms) places o (sign_first minus ms) (length_signs minus ms)

pub names : (minus : Bool) (ms : List ℕ) (i n m : ℕ) → ((j : ℕ) → get_or ms j 0 < 65536)
    → plain_at 256 i (sign_first minus ms) ≡ Some m → (o : Operand)
    → spoken_of (length ms) (named (suc i) n (sign_first minus ms) o) ≡ told_of o (suc i) n (length ms)
unfolding plain_at and_then
names minus ms i n m below e o = by (dec_lt i (length ms))
  where
    by : Dec (i < length ms)
        → spoken_of (length ms) (named (suc i) n (sign_first minus ms) o) ≡ told_of o (suc i) n (length ms)
    by (yes h) = counted o minus ms i n h (words_of ms below)
    by (no h) =
        let none = none_past (sign_first minus ms) i (omega (arith, length_signs minus ms)) in
        let q : ◌≡◌ {A = Option ℕ} None (Some m) = rw none at e in
        clash cc
