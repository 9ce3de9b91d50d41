-- The whole text: its code is stored where all of its lines were read, and nothing where one was refused.
-- Assumes nothing.
use Rattle.op.specs.declared.Refusal.{Refusal}
use Rattle.readback.specs.declared.BadLine.{BadLine}
use Rattle.std.specs.Prelude.{Err, Result}
use mathlib.Core.Path.{◌≡◌, refl, sym, ap, ◌∙◌, subst}
use mathlib.Core.Bool.{true, false}
use mathlib.Core.List.{List}
use Prim.Native.Nat.{ℕ, ◌-◌, ◌≤◌}
use native.Mathlib.Omega.{arith}
use lib.ListN.{length, take, drop}
use lib.Seq.{sets}
use borrow.Author.Tests.{le-leb}
use Rattle.op.specs.declared.Refusal.TheVariants.{NotALine}
use Rattle.text.specs.Listing.{header}
use Rattle.text.specs.Parts.{split}
use Rattle.text.specs.Put.{written, Places}
use Rattle.text.specs.Reading.{same}
use Rattle.text.proofs.Splitting.{split_some}
use Rattle.readback.specs.Lined.{stored_in, Fills}
use Rattle.readback.specs.Promise.{bad_line, answer_of, stored_of, Reads}
use Rattle.readback.specs.Reading.{Reading, Read, Stopped, lines_from, room_of, reading}
use Rattle.readback.proofs.Cutting.{rest_is}
use Rattle.readback.proofs.Header.{header_size}
use Rattle.readback.proofs.Inverse.{lines_fit}

-- no more is stored than there is room for
stored_fits : (room : ℕ) (body : List ℕ) → length (stored_of (lines_from 2 0 room (split 10 body))) ≤ room
stored_fits room body = by (lines_from 2 0 room (split 10 body)) refl
  where
    by : (r : Reading) → lines_from 2 0 room (split 10 body) ≡ r → length (stored_of r) ≤ room
    by (Read code) e = lines_fit room (split 10 body) (split_some 10 body) 2 code e
    by (Stopped r k) e = omega arith

answer_size : (x : Reading) → stored_in (answer_of x) ≡ length (stored_of x)
answer_size (Read code) = refl
answer_size (Stopped r k) = refl

-- without the header
pub reads_headless : (text old : List ℕ) → same (take (length header) text) header ≡ false
    → Reads text old (Err (bad_line NotALine 1)) old
unfolding reading
reads_headless text old e = record { answers = rw e; cells = rw e }

-- the text behind it
pub body_is : (text : List ℕ) → take (length text - 28) (drop 28 text) ≡ drop (length header) text
body_is text = rest_is text 28 ∙ ap (λ (n : ℕ). drop n text) (sym header_size)

module _ (text old body space out : List ℕ) (answer : Result ℕ BadLine) (h : same (take (length header) text) header ≡ true)
    (b : body ≡ drop (length header) text) (s : length space ≡ room_of (length old)) (f : Fills body space answer out)
  where
    abbrev Whole : Reading
    Whole = reading (length old) text

    whole_is : lines_from 2 0 (length space) (split 10 body) ≡ Whole
    unfolding reading
    whole_is = rw (b, s, h)

    answered : answer ≡ answer_of Whole
    answered = f.answers ∙ ap answer_of whole_is

    module _ (n : ℕ) (e : n ≡ stored_in answer) where
      size_is : n ≡ length (stored_of Whole)
      size_is = e ∙ ap stored_in answered ∙ answer_size Whole

      pub reads_fits : (n ≤ length space) × (n ≤ length old)
      reads_fits =
          let l = stored_fits (length space) body in
          let m = ap (λ (x : Reading). length (stored_of x)) whole_is in
          (omega (arith, size_is, l, m), omega (arith, size_is, l, m, s))

      bytes_are : take n out ≡ stored_of Whole
      bytes_are = ap (λ (i : ℕ). take i out) size_is
          ∙ subst (λ (x : Reading). take (length (stored_of x)) out ≡ stored_of x) whole_is f.bytes

      pub reads_stored : (bytes new : List ℕ) (p : Result ℕ Refusal) → bytes ≡ take n out → Places old 0 bytes p new
          → Reads text old answer new
      unfolding written
      reads_stored bytes new p q x =
          let is = q ∙ bytes_are in
          let l : length bytes ≤ length old - 0 = omega (arith, ap length is, size_is, reads_fits.1) in
          let stored : new ≡ sets old 0 bytes = rw (le-leb (length bytes) (length old - 0) l) at x.cells in
          record { answers = answered; cells = stored ∙ ap (sets old 0) is }
