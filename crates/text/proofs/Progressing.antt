-- Laws of the progress of a part: what a line more says, and what is said where the lines end.
-- Assumes nothing.
use Rattle.code.specs.Decode.{instr}
use Rattle.code.specs.Decode.{Step}
use Rattle.text.specs.Fitting.{Listed}
use Rattle.std.specs.Prelude.{Ok, Err, Result, Some, None}
use mathlib.Core.Path.{◌≡◌, refl, sym, ap, ◌∙◌}
use mathlib.Core.Bool.{Bool, true, false, cond}
use mathlib.Core.List.{List, [], ◌∷◌, ◌++◌, append-nil}
use Prim.Native.Nat.{ℕ, suc, ◌+◌, ◌-◌, ◌≤◌, ◌<◌}
use native.Mathlib.Decide.{dec_lt}
use native.Mathlib.Omega.{arith}
use lib.Dec.{leb, ltb}
use lib.ListN.{length, drop, get_or, length-drop, length-append}
use lib.Seq.{sets, length-sets}
use borrow.Author.Tests.{le-leb, lt-leb, leb-true, leb-false}
use Rattle.op.specs.Names.{ascii, name_of}
use Rattle.op.specs.Opcodes.{last_opcode}
use Rattle.op.specs.declared.Operand.{Operand}
use Rattle.op.specs.declared.Operand.TheVariants as O
use Rattle.op.specs.declared.Refusal.{Refusal}
use Rattle.op.specs.declared.Refusal.TheVariants.{Full}
use Rattle.op.specs.declared.Table.TheVariants.{Text}
use Rattle.code.specs.Decode.{decode}
use Rattle.code.specs.Tables.{code_limit}
use Rattle.code.proofs.Decoding.{decoded_ends}
use Rattle.reader.specs.Reader.{after_step}
use Rattle.text.specs.Fitting.{Line, line_to, Part, no_line, onto, fit, said_of, listed_of, listed_in, Lists}
use Rattle.text.specs.Lines.{depth_text, column_of, end_line, end_lines, lines_from, lines_at}
use Rattle.text.specs.Fields.{line_text, Lean}
use Rattle.text.specs.Listing.{fault_line, line_of}
use Rattle.text.specs.Inner.{went_by, goes_on, cut_off, step_text, step_next, step_going, Steps, Lent, left, turns, Fills, Told}
use Rattle.text.specs.Inner.{said_by, Goes}
use Rattle.text.specs.Put.{Places, placed_of, written}
use Rattle.text.specs.declared.lister.Progress.{Progress}
use denote.Enum.Bare.{sameb}
use Rattle.text.specs.contracts.lister.Going.{the_type}
use Rattle.text.specs.declared.lister.Going.{Going}
use Rattle.text.specs.declared.lister.Going.TheVariants.{On, Ended, Cut}
use Rattle.text.proofs.Pieces.{from_line, from_end, from_fault, fit_line, fit_full, fit_none, onto_onto}
use Rattle.text.proofs.Putting.{then, sets_append}
use Rattle.text.proofs.Lining.{line_of_lem, fault_of, end_of}
use Rattle.text.proofs.Whole.{faulted}

-- a column is there or not
column_some : (depths : List ℕ) (at : ℕ) → ltb at (length depths) ≡ true → 1 ≤ length (column_of depths at)
unfolding column_of
column_some depths at e = rw e (omega (arith, length-append (depth_text (get_or depths at 0)) (9 ∷ [])))

column_none : (depths : List ℕ) (at : ℕ) → ltb at (length depths) ≡ false → column_of depths at ≡ []
unfolding column_of
column_none depths at e = rw e

end_some : (depths : List ℕ) (at : ℕ) → ltb at (length depths) ≡ true
    → end_lines depths at ≡ line_to (column_of depths at ++ end_line at) (suc (suc at)) ∷ []
unfolding end_lines
end_some depths at e = rw e

pub end_none : (depths : List ℕ) (at : ℕ) → ltb at (length depths) ≡ false → end_lines depths at ≡ []
unfolding end_lines
end_none depths at e = rw e

-- the code's tests are those of the definitions
pub on_is : (g : Going) → sameb the_type g On ≡ goes_on g
on_is On = refl
on_is Ended = refl
on_is Cut = refl

pub cut_is : (g : Going) → sameb the_type g Cut ≡ cut_off g
cut_is On = refl
cut_is Ended = refl
cut_is Cut = refl

-- no line more
ended : {A : Type 0} → false ≡ true → A
ended e = let y : ◌≡◌ {A = ℕ} 0 1 = cc in let z : ⊥ = omega arith in absurd z

module _ (depths code : List ℕ) (at : ℕ) (old : List ℕ) (to : ℕ) (lent : Lent code depths old to) where
  abbrev room : ℕ
  room = length old - to

  -- the next line is to be put, and behind it come `rest`: the lines from `next` on where there may be more, else none
  module _ (text : List ℕ) (next : ℕ) (more : Going) (rest : List Line)
      (is : lines_from depths code at ≡ line_to text (suc next) ∷ rest)
      (near : next ≤ suc (length code)) (on : goes_on more ≡ true → (at < next) × (next ≤ length code)) where
    -- it has room
    put : length text ≤ room → fit (room - length text) (suc next) rest
        ≡ left depths code (length old) (record { at = next; to = to + length text; going = more })
        → Fills depths code at old to (record { at = next; to = to + length text; going = more })
        (sets old to text)
    put h e = record {
      text = text;
      puts = record { next_is = refl; out_is = refl };
      fits = omega (arith, h, lent.fits);
      part =
          ap (λ (ls : List Line). fit room (suc at) ls) is ∙ fit_line room (suc at) (line_to text (suc next)) rest h
          ∙ ap (λ (p : Part). onto text p) e;
      far = λ f. let z : ⊥ = omega (arith, near) in absurd z;
    }

    -- it has not
    kept : room < length text → Fills depths code at old to (record { at = at; to = to; going = Cut }) old
    kept h = record {
      text = [];
      puts = record { next_is = omega arith; out_is = refl };
      fits = lent.fits;
      part = ap (λ (ls : List Line). fit room (suc at) ls) is ∙ fit_full room (suc at) (line_to text (suc next)) rest h;
      far = λ f. refl;
    }

    fewer : (more' : Going) → more ≡ more'
        → turns code (record { at = next; to = to + length text; going = more' }) < suc (length code - at)
    fewer On e = omega (arith, on (ap goes_on e))
    fewer Ended e = omega arith
    fewer Cut e = omega arith

    module _ (after : goes_on more ≡ true → next ≡ after_step (length code) at (decode last_opcode at (drop at code)))
        (e : fit (room - length text) (suc next) rest
        ≡ left depths code (length old) (record { at = next; to = to + length text; going = more }))
      where
        pub by_room : (b : Bool) → leb (length text) room ≡ b
            → Told depths code at old to (went_by (cond b (Ok (to + length text)) (Err (Full Text))) at to
            next more) (cond b (sets old to text) old)
        by_room true h = record { fills = put (leb-true (length text) room h) e; fewer = fewer more refl; next = after }
        by_room false h = record {
          fills = kept (leb-false (length text) room h);
          fewer = omega arith;
          next = ended;
        }

        pub went : Told depths code at old to (went_by (placed_of old to text) at to next more) (written old to text)
        unfolding placed_of written
        went = by_room (leb (length text) room) refl

  -- no line is left
  none : lines_from depths code at ≡ [] → Told depths code at old to (went_by (placed_of old to []) at to at Ended)
      (written old to [])
  unfolding placed_of written
  none is =
      rw (le-leb 0 room (omega arith)) (record {
        fills = record {
          text = [];
          puts = record { next_is = refl; out_is = refl };
          fits = omega (arith, lent.fits);
          part = ap (λ (ls : List Line). fit room (suc at) ls) is ∙ fit_none room (suc at);
          far = λ f. refl;
        };
        fewer = omega arith;
        next = ended;
      })

  -- by the cases of the step
  stepped : (s : Step) → decode last_opcode at (drop at code) ≡ s
      → Told depths code at old to (went_by (placed_of old to (step_text (column_of depths at) at (drop at code) s)) at to
      (step_next (column_of depths at) at (drop at code) s) (step_going s))
      (written old to (step_text (column_of depths at) at (drop at code) s))
  stepped (Ok (Some i)) e =
      let k = i.opcode in
      let o = i.operand in
      let z = i.size in
      let d = decoded_ends last_opcode at code k o z e in
      let text = column_of depths at ++ line_of name_of at (drop at code) in
      went text (at + z) On (lines_from depths code (at + z)) (from_line depths code at k o z e) (omega (arith, d)) (λ m. (omega (arith, d), d.1))
      (λ m. sym (ap (λ (x : Step). after_step (length code) at x) e
      ∙ rw (le-leb z (length code - at) (omega (arith, d)))))
      (ap (λ (n : ℕ). fit n (suc (at + z)) (lines_from depths code (at + z))) (omega arith))
  stepped (Ok None) e = by (ltb at (length depths)) refl
    where
      by : (b : Bool) → ltb at (length depths) ≡ b
          → Told depths code at old to
          (went_by (placed_of old to (step_text (column_of depths at) at (drop at code) (Ok None))) at to
          (step_next (column_of depths at) at (drop at code) (Ok None)) Ended)
          (written old to (step_text (column_of depths at) at (drop at code) (Ok None)))
      by true p =
          rw (le-leb 1 (length (column_of depths at)) (column_some depths at p))
          (went (column_of depths at ++ end_line at) (suc at) Ended [] (from_end depths code at e ∙ end_some depths at p)
          (omega (arith, lent.cells, leb-true (suc at) (length depths) p))
          ended ended (fit_none (room - length (column_of depths at ++ end_line at)) (suc (suc at))))
      by false p = rw (column_none depths at p) (none (from_end depths code at e ∙ end_none depths at p))
  stepped (Err r) e =
      let here = faulted at (drop at code) r e in
      went (line_of name_of at (drop at code)) (suc (at + length (drop at code))) Ended []
      (from_fault depths code at r e) (omega (arith, here, length-drop at code))
      ended ended (fit_none (room - length (line_of name_of at (drop at code))) (suc (suc (at + length (drop at code)))))

  pub told : (s : Step) → decode last_opcode at (drop at code) ≡ s → (front : List ℕ) → front ≡ column_of depths at
      → (p : Progress) (out : List ℕ)
      → Steps front code at s old to p out → Told depths code at old to p out
  told s e front c p out t = rw (t.answers, t.cells, c) (stepped s e)

-- at first nothing is put
pub unfilled : (depths code : List ℕ) (at : ℕ) (old : List ℕ) (to : ℕ) → to ≤ length old
    → Fills depths code at old to (record { at = at; to = to; going = On }) old
unfilled depths code at old to h = record {
  text = [];
  puts = record { next_is = omega arith; out_is = refl };
  fits = h;
  part = refl;
  far = λ f. refl;
}

-- what was put, and put on
module _ {depths code old out : List ℕ} {at to : ℕ} {p : Progress} (f : Fills depths code at old to p out) where
  pub filled_length : length out ≡ length old
  filled_length = ap length f.puts.out_is ∙ length-sets old to f.text

  pub onward : {q : Progress} {out' : List ℕ} → goes_on p.going ≡ true → Fills depths code p.at out p.to q out'
      → Fills depths code at old to q out'
  onward {q} {out'} m g = record {
    text = f.text ++ g.text;
    puts = then f.puts g.puts;
    fits = omega (arith, g.fits, filled_length);
    part =
        f.part
        ∙ ap (λ (b : Bool). onto f.text
        (cond b (fit (length old - p.to) (suc p.at) (lines_from depths code p.at))
        (no_line (suc p.at) (cut_off p.going)))) m
        ∙ ap (λ (n : ℕ). onto f.text (fit (n - p.to) (suc p.at) (lines_from depths code p.at)))
        (sym filled_length)
        ∙ ap (λ (x : Part). onto f.text x) g.part
        ∙ onto_onto f.text g.text (left depths code (length out) q)
        ∙ ap (λ (n : ℕ). onto (f.text ++ g.text) (left depths code n q)) filled_length;
    far = λ h. let e = g.far h in e ∙ f.far (omega (arith, e, h));
  }

-- the next offset has one behind it
pub near : {depths code old out : List ℕ} {at to : ℕ} {p : Progress} (top : ℕ) → Fills depths code at old to p out
    → at < top → suc (length code) < top → p.at < top
near {depths} {code} {old} {out} {at} {to} {p} top f h g = by (dec_lt (suc (length code)) p.at)
  where
    by : Dec (suc (length code) < p.at) → p.at < top
    by (yes far) = omega (arith, f.far far, h)
    by (no far) = omega (arith, g)

-- the lines end
pub goes : {depths code old out : List ℕ} {at to : ℕ} {p : Progress} → Fills depths code at old to p out
    → goes_on p.going ≡ false → Goes depths code at old to (said_by p) out
unfolding said_by
goes {depths} {code} {old} {out} {at} {to} {p} f m =
    let e : fit (length old - to) (suc at) (lines_from depths code at)
    ≡ record { text = f.text; next = suc p.at; full = (cut_off p.going) } =
    f.part
    ∙ ap (λ (b : Bool). onto f.text
    (cond b (fit (length old - p.to) (suc p.at) (lines_from depths code p.at))
    (no_line (suc p.at) (cut_off p.going)))) m
    ∙ ap (λ (t : List ℕ). record { text = t; next = suc p.at; full = (cut_off p.going) }) (append-nil f.text) in
    record {
      answers = rw e (ap (λ (n : ℕ). said_of n (no_line (suc p.at) (cut_off p.going))) f.puts.next_is);
      cells = rw e f.puts.out_is;
    }

-- a part from a cursor behind the first line, and from the first
pub lists_on : {depths code old out : List ℕ} {at : ℕ} {answer : Listed} → Goes depths code at old 0 answer out
    → Lists (lines_from depths code at) (suc at) old answer out
unfolding listed_of listed_in
lists_on {depths} {code} {old} {out} {at} {answer} g =
    let e : length old - 0 ≡ length old = omega arith in
    let part = fit (length old) (suc at) (lines_from depths code at) in
    let zero_more : 0 + length part.text ≡ length part.text = omega arith in
    record { answers = rw e at g.answers ∙ ap (λ (n : ℕ). said_of n part) zero_more; cells = rw e at g.cells }

placed_fits : (old : List ℕ) (at : ℕ) (text : List ℕ) (e : ℕ) → Ok e ≡ placed_of old at text
    → (e ≡ at + length text) × (length text ≤ length old - at)
unfolding placed_of
placed_fits old at text e q = by (leb (length text) (length old - at)) refl q
  where
    by : (b : Bool) → leb (length text) (length old - at) ≡ b
        → Ok e ≡ cond b (Ok (at + length text)) (Err (Full Text))
        → (e ≡ at + length text) × (length text ≤ length old - at)
    by true t q = (cc, leb-true (length text) (length old - at) t)
    by false t q = let y : ◌≡◌ {A = ℕ} 0 1 = cc in let z : ⊥ = omega arith in absurd z

-- the place behind a text that was placed is within
pub placed_within : {old text out : List ℕ} {to : ℕ} → Places old 0 text (Ok to) out → to ≤ length out
unfolding written
placed_within {old} {text} {out} {to} p =
    let h = placed_fits old 0 text to p.answers in
    let m : out ≡ sets old 0 text = p.cells ∙ rw (le-leb (length text) (length old - 0) h.1) in
    omega (arith, h, ap length m, length-sets old 0 text)

pub lists_first : {first depths code old mid out : List ℕ} {to : ℕ} {answer : Listed}
    → Places old 0 first (Ok to) mid → Goes depths code 0 mid to answer out
    → Lists (lines_at first depths code 0) 0 old answer out
unfolding listed_of listed_in written
lists_first {first} {depths} {code} {old} {mid} {out} {to} {answer} p g =
    let h = placed_fits old 0 first to p.answers in
    let m : mid ≡ sets old 0 first = p.cells ∙ rw (le-leb (length first) (length old - 0) h.1) in
    let n : length mid - to ≡ length old - length first = omega (arith, h.0, ap length m, length-sets old 0 first) in
    let part = fit (length old - length first) 1 (lines_from depths code 0) in
    let whole : fit (length old) 0 (lines_at first depths code 0) ≡ onto first part =
    fit_line (length old) 0 (line_to first 1) (lines_from depths code 0) (omega (arith, h.1)) in
    let size : to + length part.text ≡ length (first ++ part.text) =
    omega (arith, h.0, length-append first part.text) in
    record {
      answers = rw whole (rw n at g.answers ∙ ap (λ (k : ℕ). said_of k part) size);
      cells = rw whole (rw n at g.cells ∙ ap (λ (l : List ℕ). sets l to part.text) m
          ∙ ap (λ (k : ℕ). sets (sets old 0 first) k part.text) h.0 ∙ sym (sets_append old 0 first part.text));
    }

-- the line of each step, as it is placed
module _ (code : List ℕ) (at : ℕ) (front old : List ℕ) (to : ℕ) where
  pub end_nothing : length front ≡ 0 → Steps front code at (Ok None) old to
      (record { at = at; to = to; going = Ended }) old
  unfolding placed_of written
  end_nothing h =
      let e : ltb 0 (length front) ≡ false = lt-leb 1 (length front) (omega arith) in
      let same : to ≡ to + 0 = omega arith in
      record {
        answers = rw (e, le-leb 0 (length old - to) (omega arith))
            (ap (λ (n : ℕ). record { at = at; to = n; going = Ended }) same);
        cells = rw (e, le-leb 0 (length old - to) (omega arith));
      }

  pub end_placed : {p : Result ℕ Refusal} {out : List ℕ} → 0 < length front
      → Places old to (front ++ line_text at (ascii "end") O.None (drop at code)) p out
      → Steps front code at (Ok None) old to (went_by p at to (at + 1) Ended) out
  end_placed {p} {out} h q =
      let e : ltb 0 (length front) ≡ true = le-leb 1 (length front) h in
      let n : at + 1 ≡ suc at = omega arith in
      let t = end_of at (drop at code) in
      record {
        answers = rw e (ap (λ (x : Result ℕ Refusal). went_by x at to (at + 1) Ended) (rw t at q.answers) ∙ ap (λ (k : ℕ). went_by (placed_of old to (front ++ end_line at)) at to k Ended) n);
        cells = rw e (rw t at q.cells);
      }

  pub fault_placed : {p : Result ℕ Refusal} {out : List ℕ} (r : Refusal) → decode last_opcode at (drop at code) ≡ Err r
      → Places old to (fault_line at r) p out
      → Steps front code at (Err r) old to (went_by p at to (length code + 1) Ended) out
  fault_placed {p} {out} r e q =
      let t = sym (fault_of name_of at (drop at code) r e) in
      let n : length code + 1 ≡ suc (at + length (drop at code)) = omega (arith, faulted at (drop at code) r e, length-drop at code) in
      record {
        answers =
            ap (λ (x : Result ℕ Refusal). went_by x at to (length code + 1) Ended) (rw t at q.answers)
            ∙ ap (λ (k : ℕ). went_by (placed_of old to (line_of name_of at (drop at code))) at to k Ended) n;
        cells = rw t at q.cells;
      }

  pub line_placed : {p : Result ℕ Refusal} {out : List ℕ} (k : ℕ) (o : Operand) (z : ℕ)
      → decode last_opcode at (drop at code) ≡ Ok (Some (instr k o z))
      → Places old to (front ++ line_text at (name_of k) o (drop at code)) p out
      → Steps front code at (Ok (Some (instr k o z))) old to (went_by p at to (at + z) On) out
  line_placed {p} {out} k o z e q =
      let t = sym (line_of_lem name_of at (drop at code) k o z e) in
      record {
        answers = ap (λ (x : Result ℕ Refusal). went_by x at to (at + z) On) (rw t at q.answers);
        cells = rw t at q.cells;
      }

-- the code's end fits
pub lean_end : (at : ℕ) (u : List ℕ) → at ≤ code_limit → Lean at O.None u
lean_end at u h = record { low = h; back = omega arith }

-- a column is before the depths' end
pub column_low : (depths : List ℕ) (at : ℕ) → 0 < length (column_of depths at) → at < length depths
column_low depths at h = by (ltb at (length depths)) refl
  where
    by : (b : Bool) → ltb at (length depths) ≡ b → at < length depths
    by true e = leb-true (suc at) (length depths) e
    by false e = let z : ⊥ = omega (arith, h, ap length (column_none depths at e)) in absurd z

pub column_cell : (depths : List ℕ) (at : ℕ) → at < length depths
    → depth_text (get_or depths at 0) ++ (9 ∷ []) ≡ column_of depths at
unfolding column_of
column_cell depths at h = rw (le-leb (suc at) (length depths) h)

pub column_past : (depths : List ℕ) (at : ℕ) → length depths ≤ at → [] ≡ column_of depths at
column_past depths at h = sym (column_none depths at (lt-leb (suc at) (length depths) (omega arith)))
