-- Laws of texts written into a slice, one behind the other.
-- Assumes nothing.
use Rattle.op.specs.declared.Refusal.{Refusal}
use Rattle.std.specs.Prelude.{Ok, Err, Result}
use mathlib.Core.Path.{◌≡◌, refl, sym, ap, ◌∙◌}
use mathlib.Core.Bool.{Bool, true, false, cond}
use mathlib.Core.List.{List, [], ◌∷◌, ◌++◌}
use Prim.Native.Nat.{ℕ, suc, ◌+◌, ◌-◌, ◌≤◌, ◌<◌}
use native.Mathlib.Nat.{add-zero}
use native.Mathlib.Numerals.{add-one}
use native.Mathlib.Omega.{arith}
use lib.Dec.{leb}
use lib.ListN.{length, set, take, drop, get_or, length-append}
use lib.Seq.{sets, sets-eq, take-suc, take_at, length-take-le, length-sets}
use borrow.Author.Tests.{le-leb, lt-leb}
use Rattle.op.specs.declared.Refusal.TheVariants.{Full}
use Rattle.op.specs.declared.Table.TheVariants.{Text}
use Rattle.text.specs.Put.{Put, Places, placed_of, written}

-- two texts, one behind the other
pub sets_append : (d : List ℕ) (at : ℕ) (a b : List ℕ) → sets d at (a ++ b) ≡ sets (sets d at a) (at + length a) b
sets_append d at [] b = ap (λ (k : ℕ). sets d k b) (sym (add-zero at))
sets_append d at (x ∷ a) b =
    sets_append (set d at x) (suc at) a b ∙ ap (λ (k : ℕ). sets (sets (set d at x) (suc at) a) k b) (omega arith)

-- what is left to write: `rest` from `o` on in `out` completes `text` from `at` on in `old`
pub record Left (old : List ℕ) (at : ℕ) (text : List ℕ) (o : ℕ) (out rest : List ℕ) : Type 0 where
  pub since : at ≤ o
  pub ends : o + length rest ≡ at + length text
  pub cells : sets out o rest ≡ sets old at text

-- at first it is all
pub begin : (old : List ℕ) (at : ℕ) (text : List ℕ) → Left old at text at old text
begin old at text = record { since = omega arith; ends = refl; cells = refl }

-- a part of it is written
pub next : {old out out' text a b : List ℕ} {at o o' : ℕ} → Left old at text o out (a ++ b) → Put out o a o' out'
    → Left old at text o' out' b
next {old} {out} {out'} {text} {a} {b} {at} {o} {o'} l p =
    record {
      since = omega (arith, l.since, p.next_is);
      ends = omega (arith, l.ends, length-append a b, p.next_is);
      cells =
          ap (λ (d : List ℕ). sets d o' b) p.out_is ∙ ap (λ (k : ℕ). sets (sets out o a) k b) p.next_is
          ∙ sym (sets_append out o a b) ∙ l.cells;
    }

-- the last of it is written
pub last : {old out out' text a : List ℕ} {at o o' : ℕ} → Left old at text o out a → Put out o a o' out'
    → Put old at text o' out'
last l p = record { next_is = p.next_is ∙ l.ends; out_is = p.out_is ∙ l.cells }

-- the same of an equal text
pub same_text : {d d' : List ℕ} {at r : ℕ} {a b : List ℕ} → a ≡ b → Put d at a r d' → Put d at b r d'
same_text e p = rw e at p

-- two texts
pub then : {d d' d'' : List ℕ} {at r r' : ℕ} {a b : List ℕ} → Put d at a r d' → Put d' r b r' d''
    → Put d at (a ++ b) r' d''
then {d} {d'} {d''} {at} {r} {r'} {a} {b} p q = last (next (begin d at (a ++ b)) p) q

-- nothing is left
pub done : {old out text : List ℕ} {at o : ℕ} → Left old at text o out [] → Put old at text o out
done {old} {out} {text} {at} {o} l = record { next_is = omega (arith, l.ends); out_is = l.cells }

-- no cell is added
pub left_length : {old out text rest : List ℕ} {at o : ℕ} → Left old at text o out rest → length out ≡ length old
left_length {old} {out} {text} {rest} {at} {o} l =
    sym (length-sets out o rest) ∙ ap length l.cells ∙ length-sets old at text

-- room for all is room for what is left
pub rest_fits : {old out text rest : List ℕ} {at o : ℕ} → Left old at text o out rest → length text ≤ length old - at
    → length rest ≤ length out - o
rest_fits {old} {out} {text} {rest} {at} {o} l h = omega (arith, l.since, l.ends, left_length l)

-- and for its first part
pub part_fits : {old out text : List ℕ} {at o : ℕ} (a b : List ℕ) → Left old at text o out (a ++ b)
    → length text ≤ length old - at → length a ≤ length out - o
part_fits a b l h = omega (arith, length-append a b, rest_fits l h)

-- a text that was written from the front on is read there
pub front_text_lem : {old text out : List ℕ} {e : ℕ} → Put old 0 text e out → length text ≤ length old → take e out ≡ text
front_text_lem {old} {text} {out} {e} p h =
    ap (λ (l : List ℕ). take e l) (p.out_is ∙ sets-eq text old 0 (omega arith))
    ∙ take_at text (drop (0 + length text) old) e (omega (arith, p.next_is))

-- a text that fits is placed, and one that does not is refused
pub places : {old text out : List ℕ} {at e : ℕ} → length text ≤ length old - at → Put old at text e out
    → Places old at text (Ok e) out
unfolding placed_of written
places {old} {text} {out} {at} {e} h p =
    let t = le-leb (length text) (length old - at) h in
    record { answers = rw t (ap Ok p.next_is); cells = rw t p.out_is }

pub refuses : (old : List ℕ) (at : ℕ) (text : List ℕ) → length old - at < length text
    → Places old at text (Err (Full Text)) old
unfolding placed_of written
refuses old at text h = let t = lt-leb (length text) (length old - at) h in record { answers = rw t; cells = rw t }

-- the same of an equal text
pub same_places : {old text text' out : List ℕ} {at : ℕ} {p : Result ℕ Refusal} → text ≡ text' → Places old at text p out
    → Places old at text' p out
same_places {old} {text} {text'} {out} {at} {p} e h = rw e at h

-- the place that is answered is the one behind the text
pub placed_place : (old : List ℕ) (at : ℕ) (text : List ℕ) (e : ℕ) → Ok e ≡ placed_of old at text
    → e ≡ at + length text
unfolding placed_of
placed_place old at text e q = by (leb (length text) (length old - at)) q
  where
    by : (b : Bool) → Ok e ≡ cond b (Ok (at + length text)) (Err (Full Text)) → e ≡ at + length text
    by true q = cc
    by false q = cc

-- one more byte of s
pub sets_more : (d : List ℕ) (at : ℕ) (s : List ℕ) (j : ℕ) → j < length s → set (sets d at (take j s)) (at + j) (get_or s j 0) ≡ sets d at (take (j + 1) s)
sets_more d at s j h =
    sym
    (ap (λ (k : ℕ). sets d at (take k s)) (add-one j)
    ∙ ap (λ (l : List ℕ). sets d at l) (take-suc s j 0 h)
    ∙ sets_append d at (take j s) (get_or s j 0 ∷ [])
    ∙ ap (λ (k : ℕ). set (sets d at (take j s)) (at + k) (get_or s j 0)) (length-take-le j s (omega arith)))

-- a refusal is 18
pub refused : {old text out : List ℕ} {at : ℕ} {r : Refusal} → Places old at text (Err r) out → r ≡ Full Text
unfolding placed_of
refused {old} {text} {out} {at} {r} p = by (leb (length text) (length old - at)) p.answers
  where
    by : (b : Bool) → Err r ≡ cond b (Ok (at + length text)) (Err (Full Text)) → r ≡ Full Text
    by true q = cc
    by false q = cc
