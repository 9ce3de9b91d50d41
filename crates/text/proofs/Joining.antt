-- The parts of a listing, one behind the other, are the listing.
-- Assumes nothing.
use Rattle.code.specs.Decode.{Step}
use Rattle.std.specs.Prelude.{Ok, Err, Some, None, Option}
use mathlib.Core.Path.{◌≡◌, refl, sym, ap, ◌∙◌, subst}
use mathlib.Core.Bool.{Bool, true, false, cond}
use mathlib.Core.List.{List, [], ◌∷◌, ◌++◌, append-nil, append_assoc}
use Prim.Native.Nat.{ℕ, zero, suc, ◌+◌, ◌-◌, ◌≤◌, ◌<◌}
use native.Mathlib.Omega.{arith}
use lib.Dec.{leb, ltb}
use lib.ListN.{length, take, drop, length-drop, length-append, length-take}
use lib.Seq.{sets}
use borrow.Author.Tests.{lt-leb, leb-true, leb-false}
use Rattle.op.specs.Names.{name_of}
use Rattle.op.specs.Opcodes.{last_opcode}
use Rattle.op.specs.declared.Refusal.{Refusal}
use Rattle.op.specs.declared.Refusal.TheVariants.{Full}
use Rattle.op.specs.declared.Table.TheVariants.{Text}
use Rattle.code.specs.Decode.{decode}
use Rattle.code.specs.Reading.{Spot, Read, instructions_from}
use Rattle.code.proofs.Decoding.{decode_end, decode_past}
use Rattle.code.proofs.Instructions.{reads_end}
use Rattle.text.specs.Fitting.{Listed, made, Line, line_to, text_of, Part, no_line, fit, said_of, listed_of, listed_in}
use Rattle.text.specs.Joined.{Runs, ends, goes, Joins}
use Rattle.text.specs.Lines.{column_of, end_line, end_lines, spots_then, stop_lines, read_lines, lines_from, lines_at}
use Rattle.text.specs.Lines.{listed_code, plain_lines, checked_header, checked_lines, checked_listing_of}
use Rattle.text.specs.Listing.{most, fault_line, first_line, spot_line, spot_lines, stop_line, line_of, lines_of}
use Rattle.text.specs.Listing.{listing_of, rest_of}
use Rattle.text.proofs.Pieces.{from_line, from_end, from_fault, fit_line, fit_full, fit_none}
use Rattle.text.proofs.Progressing.{column_past, end_none}
use Rattle.text.proofs.Putting.{front_text_lem}
use Rattle.text.proofs.Whole.{faulted, listing_begins}

-- the lines behind a line are those from its cursor on
abbrev Follows : (ℕ → List Line) → Type 0
Follows lines = (cursor : ℕ) (l : Line) (ls : List Line) → lines cursor ≡ l ∷ ls → lines l.next ≡ ls

-- what a part leaves
module _ (lines : ℕ → List Line) (follows : Follows lines) where
  record Leaves (room : ℕ) (ls : List Line) (p : Part) : Type 0 where
    fits : length p.text ≤ room
    rest : text_of ls ≡ p.text ++ text_of (lines p.next)
    fewer : 0 < length p.text → length (lines p.next) < length ls
    most : length (lines p.next) ≤ length ls
    all : p.full ≡ false → lines p.next ≡ []

  nothing : (room cursor : ℕ) (ls : List Line) → lines cursor ≡ ls → (full : Bool) → (full ≡ false → ls ≡ [])
      → Leaves room ls (no_line cursor full)
  nothing room cursor ls e full empty = record {
    fits = omega arith;
    rest = ap text_of (sym e);
    fewer = λ z. let y : ⊥ = omega arith in absurd y;
    most = omega (arith, ap length e);
    all = λ f. e ∙ empty f;
  }

  by_room : (room cursor : ℕ) (l : Line) (ls : List Line) → lines cursor ≡ l ∷ ls
      → Leaves (room - length l.text) ls (fit (room - length l.text) l.next ls)
      → (b : Bool) → leb (length l.text) room ≡ b → Leaves room (l ∷ ls) (fit room cursor (l ∷ ls))
  by_room room cursor l ls e i true h =
      let k = leb-true (length l.text) room h in
      let more = fit (room - length l.text) l.next ls in
      subst (Leaves room (l ∷ ls)) (sym (fit_line room cursor l ls k)) (record {
        fits = omega (arith, k, i.fits, length-append l.text more.text);
        rest = ap (λ (t : List ℕ). l.text ++ t) i.rest
            ∙ sym (append_assoc l.text more.text (text_of (lines more.next)));
        fewer = λ z. omega (arith, i.most);
        most = omega (arith, i.most);
        all = i.all;
      })
  by_room room cursor l ls e i false h =
      subst (Leaves room (l ∷ ls)) (sym (fit_full room cursor l ls (leb-false (length l.text) room h))) (nothing room cursor (l ∷ ls) e true (λ f. let y : ◌≡◌ {A = ℕ} 0 1 = cc in let z : ⊥ = omega arith in absurd z))

  leaves : (room cursor : ℕ) (ls : List Line) → lines cursor ≡ ls → Leaves room ls (fit room cursor ls)
  leaves room cursor [] e =
      subst (Leaves room []) (sym (fit_none room cursor)) (nothing room cursor [] e false (λ f. refl))
  leaves room cursor (l ∷ ls) e = by_room room cursor l ls e
      (leaves (room - length l.text) l.next ls (follows cursor l ls e)) (leb (length l.text) room) refl

  -- what an answer says of the part
  module _ (cursor : ℕ) (old : List ℕ) (n next : ℕ) (a : listed_of (lines cursor) cursor old ≡ made n next) where
    abbrev part : Part
    part = fit (length old) cursor (lines cursor)

    length_in : Listed → ℕ
    length_in (Ok answer) = answer.length
    length_in (Err r) = 0

    next_in : Listed → ℕ
    next_in (Ok answer) = answer.next
    next_in (Err r) = 0

    same : (size to : ℕ) → made size to ≡ made n next → (n ≡ size) × (next ≡ to)
    unfolding length_in next_in
    same size to e = (ap length_in (sym e), ap next_in (sym e))

    said : (size : ℕ) (p : Part) → said_of size p ≡ made n next → (n ≡ size) × (next ≡ p.next)
    said size p e = by (leb 1 size) p.full e
      where
        by : (b f : Bool) → cond b (made size p.next) (cond f (Err (Full Text)) (made size p.next))
            ≡ made n next → (n ≡ size) × (next ≡ p.next)
        by true f e = same size p.next e
        by false true e = let y : ◌≡◌ {A = ℕ} 0 1 = cc in let z : ⊥ = omega arith in absurd z
        by false false e = same size p.next e

    is : (n ≡ length part.text) × (next ≡ part.next)
    unfolding listed_of
    is = said (length part.text) part a

    put : take n (listed_in (lines cursor) cursor old) ≡ part.text
    unfolding listed_in
    put =
        let l = leaves (length old) cursor (lines cursor) refl in
        rw is.0 (front_text_lem {old = old} {text = part.text} {out = sets old 0 part.text}
        {e = length part.text} (record { next_is = omega arith; out_is = refl }) l.fits)

    pub left : text_of (lines cursor) ≡ take n (listed_in (lines cursor) cursor old) ++ text_of (lines next)
    left = (leaves (length old) cursor (lines cursor) refl).rest ∙ sym (rw (put, is.1))

    pub less : 0 < n → length (lines next) < length (lines cursor)
    less h = let l = leaves (length old) cursor (lines cursor) refl in subst (λ (k : ℕ). length (lines k) < length (lines cursor)) (sym is.1) (l.fewer (omega (arith, is.0)))

    pub fits : n ≤ length old
    fits = omega (arith, is.0, (leaves (length old) cursor (lines cursor) refl).fits)

    full : (size : ℕ) (p : Part) → said_of size p ≡ made n next → size ≡ 0 → p.full ≡ false
    full size p e z = by p.full refl (sym (rw (lt-leb 1 size (omega arith))) ∙ e)
      where
        by : (f : Bool) → p.full ≡ f → cond f (Err (Full Text)) (made size p.next) ≡ made n next
            → p.full ≡ false
        by true q e = let y : ◌≡◌ {A = ℕ} 0 1 = cc in let z : ⊥ = omega arith in absurd z
        by false q e = q

    pub all : n ≡ 0 → lines next ≡ []
    unfolding listed_of
    all z =
        let l = leaves (length old) cursor (lines cursor) refl in
        ap lines is.1 ∙ l.all (full (length part.text) part a (sym is.0 ∙ z))

  joined : (cursor : ℕ) (text : List ℕ) → Runs lines cursor text → text ≡ text_of (lines cursor)
  joined _ _ (ends cursor e) = sym (ap text_of e)
  joined _ _ (goes cursor old n next text' a r) =
      ap (λ (t : List ℕ). take n (listed_in (lines cursor) cursor old) ++ t) (joined next text' r)
      ∙ sym (left cursor old n next a)

-- the head and the rest of equal lines
abbrev next_of : List Line → ℕ
next_of [] = 0
next_of (l ∷ ls) = l.next

abbrev rest_lines : List Line → List Line
rest_lines [] = []
rest_lines (l ∷ ls) = ls

cons_next : {k l : Line} {ks ls : List Line} → k ∷ ks ≡ l ∷ ls → k.next ≡ l.next
cons_next e = ap next_of e

cons_rest : {k l : Line} {ks ls : List Line} → k ∷ ks ≡ l ∷ ls → ks ≡ ls
cons_rest e = ap rest_lines e

-- the lines of a listing follow each other
module _ (first depths code : List ℕ) (cells : length depths ≤ suc (length code)) where
  -- past the end there is none
  past : (at : ℕ) → length code < at → lines_from depths code at ≡ []
  unfolding end_lines
  past at h =
      from_end depths code at (decode_past last_opcode at code (omega arith))
      ∙ rw (lt-leb (suc at) (length depths) (omega (arith, cells)))

  end_is : (at : ℕ) → end_lines depths at ≡ cond (ltb at (length depths))
      (line_to (column_of depths at ++ end_line at) (suc (suc at)) ∷ []) []
  unfolding end_lines
  end_is at = refl

  -- the end is at the end
  ended : (at : ℕ) → decode last_opcode at (drop at code) ≡ (Ok None) → length code ≤ at
  ended at d = omega (arith, length-drop at code, decode_end last_opcode at (drop at code) d)

  -- a line that is the last
  last : (at : ℕ) (text : List ℕ) (end : ℕ) (l : Line) (ls : List Line) → length code < end
      → line_to text (suc end) ∷ [] ≡ l ∷ ls
      → lines_at first depths code l.next ≡ ls
  last at text end l ls h e = ap (λ (m : ℕ). lines_at first depths code m) (sym (cons_next e)) ∙ past end h ∙ cons_rest e

  at_end_lem : (at : ℕ) (l : Line) (ls : List Line) → length code ≤ at → (b : Bool)
      → cond b (line_to (column_of depths at ++ end_line at) (suc (suc at)) ∷ []) [] ≡ l ∷ ls
      → lines_at first depths code l.next ≡ ls
  at_end_lem at l ls h true e = last at (column_of depths at ++ end_line at) (suc at) l ls (omega arith) e
  at_end_lem at l ls h false e = let z : ⊥ = omega (arith, ap length e) in absurd z

  by_step : (at : ℕ) (l : Line) (ls : List Line) (s : Step) → decode last_opcode at (drop at code) ≡ s
      → lines_from depths code at ≡ l ∷ ls
      → lines_at first depths code l.next ≡ ls
  by_step at l ls (Ok (Some i)) d e =
      let f = sym (from_line depths code at i.opcode i.operand i.size d) ∙ e in
      ap (λ (m : ℕ). lines_at first depths code m) (sym (cons_next f)) ∙ cons_rest f
  by_step at l ls (Ok None) d e =
      at_end_lem at l ls (ended at d) (ltb at (length depths)) (sym (end_is at) ∙ sym (from_end depths code at d) ∙ e)
  by_step at l ls (Err r) d e =
      let here = faulted at (drop at code) r d in
      last at (line_of name_of at (drop at code)) (suc (at + length (drop at code))) l ls
      (omega (arith, here, length-drop at code)) (sym (from_fault depths code at r d) ∙ e)

  follows : Follows (lines_at first depths code)
  follows zero l ls e = ap (λ (m : ℕ). lines_at first depths code m) (sym (cons_next e)) ∙ cons_rest e
  follows (suc at) l ls e = by_step at l ls (decode last_opcode at (drop at code)) refl e

-- without depths they are the plain lines

plain_spots : (spots : List Spot) (more : List Line) → text_of (spots_then [] spots more) ≡ spot_lines spots ++ text_of more
plain_spots [] more = refl
plain_spots (spot ∷ spots) more =
    let here = spot_line name_of spot in
    ap (λ (c : List ℕ). (c ++ here) ++ text_of (spots_then [] spots more))
    (sym (column_past [] spot.offset (omega arith)))
    ∙ ap (λ (t : List ℕ). here ++ t) (plain_spots spots more)
    ∙ sym (append_assoc here (spot_lines spots) (text_of more))

plain_stop : (code : List ℕ) (at : ℕ) (fault : Option Refusal) → text_of (stop_lines [] code at fault) ≡ stop_line at fault
plain_stop code at None = ap text_of (end_none [] at (lt-leb (suc at) 0 (omega arith)))
plain_stop code at (Some r) = append-nil (fault_line at r)

plain_read : (code : List ℕ) (read : Read) → text_of (read_lines [] code read) ≡ lines_of read
unfolding lines_of
plain_read code read =
    plain_spots read.spots (stop_lines [] code read.stop read.fault)
    ∙ ap (λ (t : List ℕ). spot_lines read.spots ++ t) (plain_stop code read.stop read.fault)

no_lines : lines_of (instructions_from last_opcode 0 (drop 0 [])) ≡ []
unfolding lines_of
no_lines = ap lines_of (reads_end last_opcode [] 0 (decode_past last_opcode 0 [] (omega arith)))

plain_whole : (code : List ℕ) → text_of (plain_lines code 0) ≡ listing_of code
unfolding plain_lines lines_from rest_of
plain_whole code = by (leb (length code) most) ∙ sym (listing_begins code)
  where
    read : List ℕ → Read
    read code = instructions_from last_opcode 0 (drop 0 code)

    by : (b : Bool)
        → first_line (length code) ++ text_of (read_lines [] (cond b code []) (read (cond b code [])))
        ≡ first_line (length code) ++ cond b (lines_of (read code)) []
    by true = ap (λ (t : List ℕ). first_line (length code) ++ t) (plain_read code (read code))
    by false = ap (λ (t : List ℕ). first_line (length code) ++ t) (plain_read [] (read []) ∙ no_lines)

plain_follows : (code : List ℕ) → Follows (plain_lines code)
unfolding plain_lines
plain_follows code = follows (first_line (length code)) [] (listed_code code) (omega arith)

checked_follows : (code depths : List ℕ) → Follows (checked_lines code depths)
unfolding checked_lines
checked_follows code depths =
    follows checked_header (take (suc (length code)) depths) code (simp length-take (omega arith))

pub plain_left : (code old : List ℕ) (cursor n next : ℕ) → listed_of (plain_lines code cursor) cursor old ≡ made n next
    → text_of (plain_lines code cursor) ≡ take n (listed_in (plain_lines code cursor) cursor old)
    ++ text_of (plain_lines code next)
plain_left code old cursor n next a = left (plain_lines code) (plain_follows code) cursor old n next a

pub plain_fits : (code old : List ℕ) (cursor n next : ℕ) → listed_of (plain_lines code cursor) cursor old ≡ made n next
    → n ≤ length old
plain_fits code old cursor n next a = fits (plain_lines code) (plain_follows code) cursor old n next a

-- an empty part is the end
pub plain_all : (code old : List ℕ) (cursor n next : ℕ) → listed_of (plain_lines code cursor) cursor old ≡ made n next
    → n ≡ 0 → plain_lines code next ≡ []
plain_all code old cursor n next a z = all (plain_lines code) (plain_follows code) cursor old n next a z

pub joins : Joins
unfolding checked_listing_of
joins = record {
  plain = λ code text r. joined (plain_lines code) (plain_follows code) 0 text r ∙ plain_whole code;
  checked = λ code depths text r. joined (checked_lines code depths) (checked_follows code depths) 0 text r;
  fewer = λ code old cursor n next a h. less (plain_lines code) (plain_follows code) cursor old n next a h;
}
