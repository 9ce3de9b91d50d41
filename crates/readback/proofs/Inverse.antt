-- Reading a listing and listing a code are each other's inverse.
-- Assumes nothing.
use Rattle.code.specs.Decode.{Step}
use Rattle.std.specs.Prelude.{Ok, Err, Some, None}
use mathlib.Core.Path.{◌≡◌, refl, sym, ap, ◌∙◌, subst}
use mathlib.Core.Bool.{Bool, true, false, cond}
use mathlib.Core.List.{List, [], ◌∷◌, ◌++◌, append_assoc}
use Prim.Native.Nat.{ℕ, zero, suc, ◌+◌, ◌-◌, ◌*◌, ◌≤◌, ◌<◌}
use native.Mathlib.Omega.{arith}
use lib.ListN.{length, get_or, take, drop, length-append, length-drop, take-append-drop}
use lib.Seq.{take-append_seam, drop-append_seam, append_snoc, length-take-le}
use borrow.Author.Tests.{le-leb}
use Rattle.base.proofs.Bools.{clash}
use Rattle.base.proofs.Lists.{take_below, drop_below}
use Rattle.op.specs.Opcodes.{last_opcode}
use Rattle.op.specs.Shapes.{operand_shape, size_of}
use Rattle.op.proofs.Listed.{rows}
use Rattle.op.specs.declared.Operand.{Operand}
use Rattle.op.specs.declared.Refusal.{Refusal}
use Rattle.op.specs.declared.Refusal.TheVariants.{NotALine}
use Rattle.code.specs.Bytes.{words_in}
use Rattle.code.specs.Decode.{decode, names_in, names_at}
use Rattle.code.specs.Reading.{Read, Spot, instruction, before, stops_at, spot_at, read_by, read_up_to, instructions_from}
use Rattle.code.specs.Reading.{instructions_in}
use Rattle.code.proofs.Decoding.{Decoded, decoded, names_part, decode_end}
use Rattle.code.proofs.Instructions.{instructions_step}
use Rattle.code.proofs.Inverse.{encode_decode, reads_encoded}
use Rattle.code.proofs.Ranges.{decoded_range}
use Rattle.text.specs.Listing.{line, header, most, spot_line, spot_lines, lines_of, listing_of}
use Rattle.text.specs.Parts.{split, join}
use Rattle.text.specs.Reading.{same}
use Rattle.text.specs.Row.{row_of, row_text}
use Rattle.text.proofs.Opcodes.{same_refl, yes_same}
use Rattle.text.proofs.RowsBack.{line_found}
use Rattle.text.proofs.Splitting.{split_some, join_split}
use Rattle.op.specs.Names.{name_of}
use Rattle.readback.specs.Formed.{Judged, Good, Bad, judge}
use Rattle.readback.specs.Reading.{Read as Done}
use Rattle.readback.specs.Reading.{Reading, Stopped, onto, behind, lines_from, room_of, reading}
use Rattle.readback.specs.Promise.{Bytes, Listed, ReadsBack}
use Rattle.readback.proofs.Saying.{Words}
use Rattle.readback.proofs.Judging.{judge_back, Judges, judge_only}

-- the lines of a text

pub lines_more : (k at room : ℕ) (t : List ℕ) (ts : List (List ℕ)) → (ts ≡ [] → ⊥)
    → lines_from k at room (t ∷ ts)
    ≡ behind k (judge at (room - at) t) (λ bytes. lines_from (suc k) (at + length bytes) room ts)
unfolding lines_from
lines_more k at room t [] n = absurd (n refl)
lines_more k at room t (u ∷ ts) n = refl

-- an instruction's line as the text of its row
row_line : (spot : Spot)
    → spot_line name_of spot
    ≡ line (row_text (row_of spot.offset spot.what.opcode spot.what.operand spot.what.names))
unfolding row_text
row_line spot = refl

-- a code's listing is read as the code

words_in_lem : (u : List ℕ) → ((i : ℕ) → get_or u i 0 < 256) → Words (words_in u)
words_in_lem [] h = tt
words_in_lem (a ∷ []) h = tt
words_in_lem (a ∷ b ∷ u) h = (omega (arith, h 0, h 1), words_in_lem u (λ i. h (suc (suc i))))

length_words : (n : ℕ) (u : List ℕ) → length u ≡ 2 * n → n ≡ length (words_in u)
length_words zero [] e = refl
length_words zero (a ∷ u) e = absurd (omega arith)
length_words (suc n) [] e = absurd (omega arith)
length_words (suc n) (a ∷ []) e = absurd (omega arith)
length_words (suc n) (a ∷ b ∷ u) e = ap suc (length_words n u (omega arith))

-- what is listed of an instruction and of what is read behind it
lines_before : (spot : Spot) (more : Read) → lines_of (before spot more) ≡ spot_line name_of spot ++ lines_of more
unfolding lines_of
lines_before spot more = append_assoc (spot_line name_of spot) (spot_lines more.spots) _

-- the numbers of the instruction at the front of some bytes
module _ (u : List ℕ) (bytes : Bytes u) (k : ℕ) (o : Operand) (z : ℕ) (d : Decoded last_opcode u k o z) where
  abbrev name_words : List ℕ
  name_words = words_in (names_at last_opcode u)

  names_length : length (names_at last_opcode u) ≡ 2 * names_in o
  names_length =
      ap length (names_part last_opcode u k o z d)
      ∙ length-take-le (2 * names_in o) (drop (size_of (operand_shape o) 0) u)
      (rw length-drop (omega (arith, d.base, d.fits)))

  names_bytes_lem : (i : ℕ) → get_or (names_at last_opcode u) i 0 < 256
  names_bytes_lem =
      let fixed = size_of (operand_shape o) 0 in
      rw (names_part last_opcode u k o z d)
      (take_below (2 * names_in o) (drop fixed u) (drop_below fixed u bytes))

  judged : (at room : ℕ) → z ≤ room → judge at room (row_text (row_of at k o name_words)) ≡ Good (take z u)
  judged at room l =
      let e = encode_decode u bytes last_opcode k o z d in
      judge_back at k o name_words (omega (arith, d.known, rows)) d.shape (decoded_range u bytes k o z d)
      (length_words (names_in o) (names_at last_opcode u) names_length) (words_in_lem (names_at last_opcode u) names_bytes_lem)
      room (omega (arith, ap length e, length-take-le z u d.fits))
      ∙ ap Good e

-- where nothing is left nothing is read
nothing_read : (at : ℕ) (u : List ℕ) → length u ≡ 0 → instructions_from last_opcode at u ≡ stops_at at None
unfolding instructions_from read_up_to
nothing_read at [] e = refl
nothing_read at (x ∷ u) e = absurd (omega arith)

-- the code from an offset on is read from the lines of its instructions
module _ (room : ℕ) where
  abbrev ReadAs : (at : ℕ) (u : List ℕ) (read : Read) → Type 0
  ReadAs at u read = (k : ℕ) → lines_from k at room (split 10 (lines_of read)) ≡ Done u

  read_end : (at : ℕ) (u : List ℕ) → length u ≡ 0 → ReadAs at u (stops_at at None)
  unfolding lines_from lines_of split
  read_end at [] e k = refl
  read_end at (x ∷ u) e k = absurd (omega arith)

  read_line : (at : ℕ) (u : List ℕ) → Bytes u → at + length u ≤ room → (k : ℕ) (o : Operand) (z : ℕ)
      → Decoded last_opcode u k o z → (more : Read) → ReadAs (at + z) (drop z u) more
      → ReadAs at u (before (spot_at last_opcode at u k o z) more)
  read_line at u b h k o z d more later n =
      let names = words_in (names_at last_opcode u) in
      let row = row_of at k o names in
      let spot = spot_at last_opcode at u k o z in
      let rest = split 10 (lines_of more) in
      let l : length (take z u) ≡ z = length-take-le z u d.fits in
      let parts : split 10 (lines_of (before spot more)) ≡ row_text row ∷ rest =
      ap (split 10) (lines_before spot more ∙ ap (λ (t : List ℕ). t ++ lines_of more) (row_line spot))
      ∙ line_found row (lines_of more) (omega (arith, d.known, rows)) in
      let told = judged u b k o z d at (room - at) (omega (arith, d.fits)) in
      ap (lines_from n at room) parts ∙ lines_more n at room (row_text row) rest (split_some 10 (lines_of more))
      ∙ ap (λ (j : Judged). behind n j (λ bytes. lines_from (suc n) (at + length bytes) room rest)) told
      ∙ ap (λ (m : ℕ). onto (take z u) (lines_from (suc n) (at + m) room rest)) l
      ∙ ap (onto (take z u)) (later (suc n)) ∙ ap Done (take-append-drop z u)

  -- by what stands at the front; `later` reads what is behind it
  read_step : (at : ℕ) (u : List ℕ) → Bytes u → at + length u ≤ room → (t : Step) → decode last_opcode at u ≡ t
      → (read_by last_opcode (instructions_from last_opcode) at u t).fault ≡ None
      → ((z : ℕ) → 0 < z → z ≤ length u → (instructions_from last_opcode (at + z) (drop z u)).fault ≡ None
      → ReadAs (at + z) (drop z u) (instructions_from last_opcode (at + z) (drop z u)))
      → ReadAs at u (read_by last_opcode (instructions_from last_opcode) at u t)
  read_step at u b h (Ok (Some i)) e f later =
      let z = i.size in
      let d = decoded last_opcode at u i.opcode i.operand z e in
      read_line at u b h i.opcode i.operand z d (instructions_from last_opcode (at + z) (drop z u)) (later z d.some d.fits f)
  read_step at u b h (Ok None) e f later = read_end at u (decode_end last_opcode at u e)
  read_step at u b h (Err r) e f later = clash cc

  read_up : (n at : ℕ) (u : List ℕ) → length u ≤ n → Bytes u → at + length u ≤ room
      → (instructions_from last_opcode at u).fault ≡ None
      → ReadAs at u (instructions_from last_opcode at u)
  read_up zero at u l b h f =
      let none_left : length u ≡ 0 = omega arith in
      subst (ReadAs at u) (sym (nothing_read at u none_left)) (read_end at u none_left)
  read_up (suc n) at u l b h f =
      let s = instructions_step last_opcode at u in
      let g = ap (λ (r : Read). r.fault) (sym s) ∙ f in
      subst (ReadAs at u) (sym s)
      (read_step at u b h (decode last_opcode at u) refl g
      (λ z p q e. read_up n (at + z) (drop z u) (omega (arith, length-drop z u)) (drop_below z u b)
      (omega (arith, length-drop z u)) e))

-- and a text that is read is the listing of its code

-- what lines say that are read, from an offset on
record Told (at room : ℕ) (ls : List (List ℕ)) (code : List ℕ) : Type 0 where
  text : join 10 ls ≡ lines_of (instructions_from last_opcode at code)
  whole : (instructions_from last_opcode at code).fault ≡ None
  fits : at + length code ≤ room

never : {code : List ℕ} {r : Refusal} {k : ℕ} → Stopped r k ≡ Done code → ⊥
never e = clash cc

told_end : (at room : ℕ) (t code : List ℕ) (k : ℕ) (b : Bool) → at ≤ room → same t [] ≡ b
    → cond b (Done []) (Stopped NotALine k) ≡ Done code
    → Told at room (t ∷ []) code
unfolding lines_of
told_end at room t code k true h q e =
    let c : [] ≡ code = cc in
    let n = nothing_read at [] refl in
    subst (Told at room (t ∷ [])) c (record {
      text = yes_same t [] q ∙ sym (ap lines_of n);
      whole = ap (λ (r : Read). r.fault) n;
      fits = omega arith;
    })
told_end at room t code k false h q e = absurd (never e)

-- bytes that are read in front of others
record Onto (bytes : List ℕ) (r : Reading) (code : List ℕ) : Type 0 where
  more : List ℕ
  is : r ≡ Done more
  joined : bytes ++ more ≡ code

onto_is : (bytes : List ℕ) (r : Reading) (code : List ℕ) → onto bytes r ≡ Done code → Onto bytes r code
onto_is bytes (Done more) code e = record { more = more; is = refl; joined = cc }
onto_is bytes (Stopped r k) code e = absurd (never e)

-- a line in front of lines
told_line : (at room : ℕ) (t : List ℕ) (ls : List (List ℕ)) (bytes more : List ℕ) → (ls ≡ [] → ⊥) → at ≤ room
    → Judges at (room - at) t bytes
    → Told (at + length bytes) room ls more
    → Told at room (t ∷ ls) (bytes ++ more)
told_line at room t [] bytes more n h j w = absurd (n refl)
told_line at room t (u ∷ ls) bytes more n h j w =
    let i = instruction j.opcode j.operand j.names in
    let rest = instructions_from last_opcode (at + length bytes) more in
    let spot : Spot = record { offset = at; what = i; size = length bytes } in
    let row = row_of at j.opcode j.operand j.names in
    let reads : instructions_from last_opcode at (bytes ++ more) ≡ before spot rest =
    rw j.bytes_are (reads_encoded last_opcode at i more (omega (arith, j.known, rows)) j.well) in
    record {
      text =
          ap (λ (l : List ℕ). l ++ (10 ∷ join 10 (u ∷ ls))) j.line_is
          ∙ ap (λ (l : List ℕ). row_text row ++ (10 ∷ l)) w.text ∙ sym (append_snoc (row_text row) 10 (lines_of rest))
          ∙ ap (λ (l : List ℕ). l ++ lines_of rest) (sym (row_line spot)) ∙ sym (lines_before spot rest)
          ∙ sym (ap lines_of reads);
      whole = ap (λ (r : Read). r.fault) reads ∙ w.whole;
      fits = omega (arith, w.fits, length-append bytes more);
    }

module _ (room : ℕ) where
  told_judged : (k at : ℕ) (t : List ℕ) (ls : List (List ℕ)) (code : List ℕ) → (ls ≡ [] → ⊥) → at ≤ room
      → ((k' at' : ℕ) (more : List ℕ) → at' ≤ room → lines_from k' at' room ls ≡ Done more → Told at' room ls more)
      → (j : Judged) → judge at (room - at) t ≡ j
      → behind k j (λ bytes. lines_from (suc k) (at + length bytes) room ls) ≡ Done code
      → Told at room (t ∷ ls) code
  told_judged k at t ls code n h later (Bad r) q e = absurd (never e)
  told_judged k at t ls code n h later (Good bytes) q e =
      let o = onto_is bytes (lines_from (suc k) (at + length bytes) room ls) code e in
      let j = judge_only at (room - at) t bytes q in
      subst (Told at room (t ∷ ls)) o.joined
      (told_line at room t ls bytes o.more n h j
      (later (suc k) (at + length bytes) o.more (omega (arith, j.fits)) o.is))

  some_line : {u : List ℕ} {ls : List (List ℕ)} → u ∷ ls ≡ [] → ⊥
  some_line e = clash cc

  told_lines : (ls : List (List ℕ)) → (ls ≡ [] → ⊥) → (k at : ℕ) (code : List ℕ) → at ≤ room
      → lines_from k at room ls ≡ Done code
      → Told at room ls code
  unfolding lines_from
  told_lines [] n k at code h e = absurd (n refl)
  told_lines (t ∷ []) n k at code h e = told_end at room t code k (same t []) h refl e
  told_lines (t ∷ u ∷ ls) n k at code h e =
      told_judged k at t (u ∷ ls) code some_line h (λ k' at' more. told_lines (u ∷ ls) some_line k' at' more)
      (judge at (room - at) t) refl e

pub lines_fit : (room : ℕ) (ls : List (List ℕ)) → (ls ≡ [] → ⊥) → (k : ℕ) (code : List ℕ)
    → lines_from k 0 room ls ≡ Done code
    → length code ≤ room
lines_fit room ls n k code e = omega (arith, (told_lines room ls n k 0 code (omega arith) e).fits)

-- the header, and the lines behind it

back : (cells : ℕ) (code : List ℕ) → Bytes code → length code ≤ most → length code ≤ cells
    → (instructions_in last_opcode code).fault ≡ None
    → reading cells (listing_of code) ≡ Done code
unfolding reading listing_of
back cells code b m h f =
    let lines = lines_of (instructions_in last_opcode code) in
    rw (
      le-leb (length code) most m,
      take-append_seam header lines,
      same_refl header,
      drop-append_seam header lines,
    ) (read_up (room_of cells) (length code) 0 code (omega arith) b (omega arith) f 2)

only_behind : (cells : ℕ) (text code : List ℕ) (b : Bool) → same (take (length header) text) header ≡ b
    → cond b (lines_from 2 0 (room_of cells) (split 10 (drop (length header) text))) (Stopped NotALine 1) ≡ Done code
    → Listed cells text code
unfolding listing_of
only_behind cells text code false q e = absurd (never e)
only_behind cells text code true q e =
    let rest = drop (length header) text in
    let w = told_lines (room_of cells) (split 10 rest) (split_some 10 rest) 2 0 code (omega arith) e in
    record {
      text_is =
          sym (take-append-drop (length header) text)
          ∙ ap (λ (l : List ℕ). l ++ rest) (yes_same (take (length header) text) header q)
          ∙ ap (λ (l : List ℕ). header ++ l) (sym (join_split 10 rest) ∙ w.text)
          ∙ rw (le-leb (length code) most (omega (arith, w.fits)));
      fits = omega (arith, w.fits);
      whole = w.whole;
    }

only : (cells : ℕ) (text code : List ℕ) → reading cells text ≡ Done code → Listed cells text code
unfolding reading
only cells text code e = only_behind cells text code (same (take (length header) text) header) refl e

pub reads_back : ReadsBack
reads_back = record { back = back; only = only }
