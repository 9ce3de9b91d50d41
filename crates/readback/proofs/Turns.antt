-- The loop over the lines: what is read of a text is what was stored so far, and what is read of the lines left.
-- Assumes nothing.
use Rattle.readback.specs.Promise.{bad_line}
use Rattle.std.specs.Prelude.{Ok, Err}
use mathlib.Core.Path.{◌≡◌, refl, sym, ap, ◌∙◌}
use mathlib.Core.List.{List, [], ◌∷◌, ◌++◌, append_assoc, append-nil}
use Prim.Native.Nat.{ℕ, suc, ◌+◌, ◌-◌, ◌≤◌, ◌<◌}
use native.Mathlib.Numerals.{add-one}
use native.Mathlib.Omega.{arith}
use lib.ListN.{length, take, drop, length-append, length-drop, drop_of_length-le}
use lib.Seq.{take_at, length-take-le}
use borrow.Rule.Slice.PartMut.{put_mid, post_of, same_len_mid}
use Rattle.base.proofs.Bools.{clash}
use Rattle.op.specs.declared.Refusal.{Refusal}
use Rattle.op.specs.declared.Refusal.TheVariants.{NotALine}
use Rattle.code.specs.Bytes.{front}
use Rattle.code.specs.Encode.{encode}
use Rattle.text.specs.Parts.{split}
use Rattle.text.proofs.Splitting.{split_some}
use Rattle.readback.specs.Formed.{formed, Judged, Good, Bad, judge_by, judge}
use Rattle.readback.specs.Inner.{cut_at}
use Rattle.readback.specs.Lined.{line_of, laid, Fills}
use Rattle.readback.specs.Reading.{Reading, Read, Stopped, onto, behind, lines_from}
use Rattle.readback.proofs.Cutting.{split_cut, split_whole, next_is}
use Rattle.readback.proofs.Inverse.{lines_more}
use Rattle.readback.proofs.Judging.{judge_only}

-- bytes in front

onto_stopped : (bytes : List ℕ) (r : Refusal) (k : ℕ) → onto bytes (Stopped r k) ≡ Stopped r k
onto_stopped bytes r k = refl

onto_onto : (a b : List ℕ) (r : Reading) → onto a (onto b r) ≡ onto (a ++ b) r
onto_onto a b (Read more) = ap Read (sym (append_assoc a b more))
onto_onto a b (Stopped r k) = refl

-- the lines left

-- a line that ends, one that does not, and none
turn : (k at room : ℕ) (t : List ℕ) → cut_at 10 t < length t
    → lines_from k at room (split 10 t)
    ≡ behind k (judge at (room - at) (take (cut_at 10 t) t))
    (λ bytes. lines_from (suc k) (at + length bytes) room (split 10 (drop (suc (cut_at 10 t)) t)))
turn k at room t h =
    ap (lines_from k at room) (split_cut 10 t h)
    ∙ lines_more k at room (take (cut_at 10 t) t) (split 10 (drop (suc (cut_at 10 t)) t))
    (split_some 10 (drop (suc (cut_at 10 t)) t))

unended : (k at room : ℕ) (t : List ℕ) → 0 < length t → length t ≤ cut_at 10 t
    → lines_from k at room (split 10 t) ≡ Stopped NotALine k
unfolding lines_from
unended k at room [] h l = absurd (omega arith)
unended k at room (c ∷ t) h l = ap (lines_from k at room) (split_whole 10 (c ∷ t) l)

ended : (k at room : ℕ) → lines_from k at room (split 10 []) ≡ Read []
unfolding lines_from split
ended k at room = refl

-- the state of the loop
pub record Turned (body : List ℕ) (room : ℕ) (out : List ℕ) (from k at : ℕ) : Type 0 where
  pub inside : from ≤ length body
  pub number : k ≤ at + 2
  pub fits : at ≤ room
  pub size : length out ≡ room
  pub left : lines_from 2 0 room (split 10 body) ≡ onto (take at out) (lines_from k at room (split 10 (drop from body)))

pub turned_first : (body out : List ℕ) → Turned body (length out) out 0 2 0
turned_first body out = record {
  inside = omega arith;
  number = omega arith;
  fits = omega arith;
  size = refl;
  left = alone (lines_from 2 0 (length out) (split 10 body));
}
  where
    alone : (r : Reading) → r ≡ onto [] r
    alone (Read bytes) = refl
    alone (Stopped r k) = refl

-- the answer, where a line stops the reading, and where none does
fills_stopped : (body old out : List ℕ) (r : Refusal) (k : ℕ) → lines_from 2 0 (length old) (split 10 body) ≡ Stopped r k
    → Fills body old (Err (bad_line r k)) out
fills_stopped body old out r k e = record { answers = rw e; bytes = rw e }

fills_read : (body old out : List ℕ) (at : ℕ) → at ≤ length out
    → lines_from 2 0 (length old) (split 10 body) ≡ Read (take at out)
    → Fills body old (Ok at) out
fills_read body old out at h e =
    let l = length-take-le at out h in
    record { answers = rw (e, l); bytes = rw (e, l) }

module _ (body old out : List ℕ) (from k at : ℕ) (s : Turned body (length old) out from k at) where
  abbrev Rest : List ℕ
  Rest = drop from body

  rest_size : length Rest ≡ length body - from
  rest_size = length-drop from body

  pub turned_end : length body ≤ from → Fills body old (Ok at) out
  turned_end h =
      fills_read body old out at (omega (arith, s.fits, s.size))
      (s.left
      ∙ ap (λ (t : List ℕ). onto (take at out) (lines_from k at (length old) (split 10 t)))
      (drop_of_length-le body {i = from} h)
      ∙ ap (onto (take at out)) (ended k at (length old)) ∙ ap Read (append-nil (take at out)))

  pub turned_unended : (new : List ℕ) → from < length body → length Rest ≤ cut_at 10 Rest
      → Fills body old (Err (bad_line NotALine k)) new
  turned_unended new h l =
      fills_stopped body old new NotALine k
      (s.left ∙ ap (onto (take at out)) (unended k at (length old) Rest (omega (arith, rest_size)) l))

  -- what is read behind a line's bytes
  next : List ℕ → Reading
  next bytes = lines_from (suc k) (at + length bytes) (length old) (split 10 (drop (suc (cut_at 10 Rest)) Rest))

  module _ (l : cut_at 10 Rest < length Rest) (j : Judged)
      (is : judge at (length old - at) (take (cut_at 10 Rest) Rest) ≡ j) where
    stepped : lines_from 2 0 (length old) (split 10 body) ≡ onto (take at out) (behind k j next)
    unfolding next
    stepped =
        s.left ∙ ap (onto (take at out)) (turn k at (length old) Rest l)
        ∙ ap (λ (x : Judged). onto (take at out) (behind k x next)) is

    -- a line that is refused
    pub turned_bad : (r : Refusal) (new : List ℕ) → Err r ≡ line_of j → Fills body old (Err (bad_line r k)) new
    turned_bad r new e = by j refl e
      where
        by : (x : Judged) → j ≡ x → Err r ≡ line_of x → Fills body old (Err (bad_line r k)) new
        by (Bad q) p e =
            let i : q ≡ r = cc in
            fills_stopped body old new r k
            (stepped ∙ ap (λ (x : Judged). onto (take at out) (behind k x next)) p
            ∙ ap (λ (y : Refusal). Stopped y k) i)
        by (Good bytes) p e = clash cc

    -- a line that is stored
    abbrev Mid : List ℕ
    Mid = take (length out - at) (drop at out)

    mid_size : length Mid ≡ length out - at
    mid_size = length-take-le (length out - at) (drop at out) (omega (arith, length-drop at out))

    stored_size : (bytes : List ℕ) → length bytes ≤ length out - at
        → length (put_mid at (length out - at) out (front bytes Mid)) ≡ length out
    stored_size bytes h =
        same_len_mid at (length out - at) out (front bytes Mid)
        (omega (arith, length-append bytes (drop (length bytes) Mid), length-drop (length bytes) Mid, mid_size))

    stored_front : (bytes : List ℕ)
        → take (at + length bytes) (put_mid at (length out - at) out (front bytes Mid)) ≡ take at out ++ bytes
    stored_front bytes =
        let x = drop (length bytes) Mid in
        let y = post_of at (length out - at) out in
        let size : length (take at out ++ bytes) ≡ at + length bytes =
        omega (arith, length-append (take at out) bytes, length-take-le at out (omega (arith, s.fits, s.size))) in
        let joined : take at out ++ ((bytes ++ x) ++ y) ≡ (take at out ++ bytes) ++ (x ++ y) =
        ap (λ (z : List ℕ). take at out ++ z) (append_assoc bytes x y)
        ∙ sym (append_assoc (take at out) bytes (x ++ y)) in
        ap (take (at + length bytes)) joined ∙ take_at (take at out ++ bytes) (x ++ y) (at + length bytes) size

    some_byte : (bytes : List ℕ) → j ≡ Good bytes → (0 < length bytes) × (length bytes ≤ length old - at)
    unfolding encode
    some_byte bytes p =
        let w = judge_only at (length old - at) (take (cut_at 10 Rest) Rest) bytes (is ∙ p) in
        (omega (arith, ap length w.bytes_are), w.fits)

    pub turned_good : (size end : ℕ) (part : List ℕ) → Ok size ≡ line_of j → part ≡ laid j Mid → end ≡ cut_at 10 Rest
        → Turned body (length old) (put_mid at (length out - at) out part) (from + end + 1) (k + 1) (at + size)
    unfolding next
    turned_good size end part e c n = by j refl e c
      where
        behind_line : (m : ℕ) → m ≡ cut_at 10 Rest → from + suc (cut_at 10 Rest) ≡ from + m + 1
        behind_line m q = omega arith

        by : (x : Judged) → j ≡ x → Ok size ≡ line_of x → part ≡ laid x Mid
            → Turned body (length old) (put_mid at (length out - at) out part) (from + end + 1) (k + 1) (at + size)
        by (Bad r) p e c = clash cc
        by (Good bytes) p e c =
            let z : size ≡ length bytes = cc in
            let b = some_byte bytes p in
            let new = put_mid at (length out - at) out (front bytes Mid) in
            let later : (ℕ → List ℕ → Reading) =
            λ i d. onto (take (at + length bytes) new) (lines_from i (at + length bytes) (length old) (split 10 d)) in
            let further : drop (suc (cut_at 10 Rest)) Rest ≡ drop (from + end + 1) body =
            next_is body from (suc (cut_at 10 Rest)) ∙ ap (λ (i : ℕ). drop i body) (behind_line end n) in
            rw (z, c) (record {
              inside = omega (arith, rest_size);
              number = omega (arith, s.number, b.0);
              fits = omega (arith, s.fits, b.1);
              size = stored_size bytes (omega (arith, b.1, s.size)) ∙ s.size;
              left =
                  stepped ∙ ap (λ (x : Judged). onto (take at out) (behind k x next)) p
                  ∙ onto_onto (take at out) bytes (next bytes)
                  ∙ ap (λ (f : List ℕ). onto f (next bytes)) (sym (stored_front bytes))
                  ∙ ap (λ (i : ℕ). later i (drop (suc (cut_at 10 Rest)) Rest)) (sym (add-one k))
                  ∙ ap (later (k + 1)) further;
            })

-- a line that was found, in the room that was lent
pub line_judged : (at m n : ℕ) (t u : List ℕ) → m ≡ n → t ≡ u → judge_by at m (formed t) ≡ judge at n u
unfolding judge
line_judged at m n t u p q = rw (p, q)
