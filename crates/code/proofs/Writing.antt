-- The writer's answer: a law for each case of the code, and what it says that the bytes were written.
-- Assumes nothing.
use Rattle.code.specs.Decode.{instr}
use Rattle.std.specs.Prelude.{Ok, Err, Some, Result}
use mathlib.Core.Path.{◌≡◌, refl, sym, ap, ◌∙◌}
use mathlib.Core.Bool.{Bool, true, false}
use mathlib.Core.List.{List, [], ◌∷◌, ◌++◌, append-nil}
use Prim.Native.Nat.{ℕ, ◌<◌, ◌≤◌}
use native.Mathlib.Omega.{arith}
use lib.Dec.{leb, eqb}
use lib.ListN.{length, drop}
use borrow.Author.Tests.{le-leb, lt-leb, eq-eqb, ne_eqb, leb-true, eqb-true}
use Rattle.base.proofs.Bools.{clash}
use Rattle.op.specs.Shapes.{shape_number, shape_of, operand_shape, size_of}
use Rattle.op.specs.declared.Operand.{Operand}
use Rattle.op.specs.declared.Refusal.{Refusal}
use Rattle.op.specs.declared.Refusal.TheVariants.{UnknownOpcode, WrongShape, TooManyKeywords, Full}
use Rattle.op.specs.declared.Shape.{Shape}
use Rattle.op.specs.declared.Table.TheVariants.{Code}
use Rattle.op.proofs.Shaping.{same_shape}
use Rattle.code.specs.Bytes.{names_bytes, front}
use Rattle.code.specs.Decode.{names_in, decode}
use Rattle.code.specs.Encode.{operand_bytes, encode, written_if, written_by, written_of, filled, Writes, SignsFit}
use Rattle.code.specs.Encode.{Formed}
use Rattle.code.specs.Inner.{Writable}
use Rattle.code.proofs.Inverse.{length_encode, decode_encode}

module _ (k : ℕ) (o : Operand) (n room : ℕ) where
  pub written_unknown : (r : Refusal) → shape_of k ≡ Err r → Err UnknownOpcode ≡ written_of k o n room
  unfolding written_of
  written_unknown r e = rw e

  module _ (s : Shape) (is : shape_of k ≡ Ok s) where
    pub written_many : 255 < n → Err TooManyKeywords ≡ written_of k o n room
    unfolding written_of
    written_many h = rw (is, lt-leb n 255 h)

    module _ (few : n ≤ 255) where
      pub written_shape : (shape_number s ≡ shape_number (operand_shape o) → ⊥) → Err WrongShape ≡ written_of k o n room
      unfolding written_of
      written_shape h = rw (is, le-leb n 255 few, ne_eqb (shape_number s) (shape_number (operand_shape o)) h)

      module _ (same : shape_number s ≡ shape_number (operand_shape o)) where
        pub written_count : (names_in o ≡ n → ⊥) → Err WrongShape ≡ written_of k o n room
        unfolding written_of
        written_count h = rw (
          is,
          le-leb n 255 few,
          eq-eqb (shape_number s) (shape_number (operand_shape o)) same,
          ne_eqb (names_in o) n h,
        )

        module _ (count : names_in o ≡ n) (z : ℕ) (ez : z ≡ size_of s n) where
          pub written_full : room < z → Err (Full Code) ≡ written_of k o n room
          unfolding written_of
          written_full h =
              rw (
                is,
                le-leb n 255 few,
                eq-eqb (shape_number s) (shape_number (operand_shape o)) same,
                eq-eqb (names_in o) n count,
                lt-leb (size_of s n) room (omega (arith, ez)),
              )

          pub written_size : z ≤ room → Ok z ≡ written_of k o n room
          unfolding written_of
          written_size h =
              rw (
                is,
                le-leb n 255 few,
                eq-eqb (shape_number s) (shape_number (operand_shape o)) same,
                eq-eqb (names_in o) n count,
                le-leb (size_of s n) room (omega (arith, ez)),
                ez,
              )

-- what `written_of k o n room ≡ Size z` says
pub record Goes (k : ℕ) (o : Operand) (n room z : ℕ) : Type 0 where
  pub shape : shape_of k ≡ Ok (operand_shape o)
  pub few : n ≤ 255
  pub count : names_in o ≡ n
  pub size : z ≡ size_of (operand_shape o) n
  pub fits : z ≤ room

passed : (t : Bool) (r : Refusal) (w : Result ℕ Refusal) (z : ℕ) → written_if t r w ≡ Ok z → (t ≡ true) × (w ≡ Ok z)
passed true r w z e = (refl, e)
passed false r w z e = (cc, cc)

goes_by : (k : ℕ) (o : Operand) (n room z : ℕ) (p : Result Shape Refusal) → shape_of k ≡ p → written_by p o n room ≡ Ok z
    → Goes k o n room z
goes_by k o n room z (Err r) ep e = clash cc
goes_by k o n room z (Ok s) ep e =
    let w4 : (Result ℕ Refusal) = Ok (size_of s n) in
    let w3 : (Result ℕ Refusal) = written_if (leb (size_of s n) room) (Full Code) w4 in
    let w2 : (Result ℕ Refusal) = written_if (eqb (names_in o) n) WrongShape w3 in
    let w1 : (Result ℕ Refusal) = written_if (eqb (shape_number s) (shape_number (operand_shape o))) WrongShape w2 in
    let e1 = passed (leb n 255) TooManyKeywords w1 z e in
    let e2 = passed (eqb (shape_number s) (shape_number (operand_shape o))) WrongShape w2 z e1.1 in
    let e3 = passed (eqb (names_in o) n) WrongShape w3 z e2.1 in
    let e4 = passed (leb (size_of s n) room) (Full Code) w4 z e3.1 in
    let es : s ≡ operand_shape o =
    same_shape s (operand_shape o) (eqb-true (shape_number s) (shape_number (operand_shape o)) e2.0) in
    let ez : Ok (size_of s n) ≡ Ok z = e4.1 in
    let ez' : z ≡ size_of s n = cc in
    record {
      shape = ep ∙ ap Ok es;
      few = leb-true n 255 e1.0;
      count = eqb-true (names_in o) n e3.0;
      size = ez' ∙ ap (λ (x : Shape). size_of x n) es;
      fits = omega (arith, leb-true (size_of s n) room e4.0, ez');
    }

pub goes : (k : ℕ) (o : Operand) (n room z : ℕ) → written_of k o n room ≡ Ok z → Goes k o n room z
unfolding written_of
goes k o n room z e = goes_by k o n room z (shape_of k) refl e

-- the other way: `Goes` says all of it
pub going : (k : ℕ) (o : Operand) (n room z : ℕ) → Goes k o n room z → written_of k o n room ≡ Ok z
going k o n room z g =
    sym (written_size k o n room (operand_shape o) g.shape g.few refl g.count z g.size g.fits)

pub writable : (k : ℕ) (o : Operand) (names out : List ℕ) (z : ℕ) → written_of k o (length names) (length out) ≡ Ok z
    → Writable o names out
writable k o names out z e =
    let g = goes k o (length names) (length out) z e in
    record { count = g.count; fits = omega (arith, g.size, g.fits) }

-- the arms of the match that writes

no_names : (ns : List ℕ) → 0 ≡ length ns → names_bytes ns ≡ []
no_names [] e = refl
no_names (n ∷ ns) e = absurd (omega arith)

-- an operand without names
pub plain_arm : (k : ℕ) (ns out : List ℕ) (o o' : Operand) (x : List ℕ) → Writable o ns out → o ≡ o' → names_in o' ≡ 0
    → x ≡ front (k ∷ operand_bytes o') out → x ≡ front (encode k o ns) out
unfolding encode
plain_arm k ns out o o' x w e z h =
    let en : names_bytes ns ≡ [] = no_names ns (sym z ∙ ap names_in (sym e) ∙ w.count) in
    let bare : encode k o ns ≡ k ∷ operand_bytes o' =
    rw (e, en) (ap (λ (y : List ℕ). k ∷ y) (append-nil (operand_bytes o'))) in
    h ∙ ap (λ (y : List ℕ). front y out) (sym bare)

-- and one with names
pub names_arm : (k : ℕ) (ns out : List ℕ) (o o' : Operand) (x : List ℕ) → o ≡ o' → x ≡ front (encode k o' ns) out
    → x ≡ front (encode k o ns) out
names_arm k ns out o o' x e h = rw e h

-- room in an arm
pub arm_room : (o o' : Operand) (ns out : List ℕ) → Writable o ns out → o ≡ o'
    → size_of (operand_shape o') (length ns) ≤ length out
arm_room o o' ns out w e = rw e at w.fits

-- what was written

module _ (k : ℕ) (o : Operand) (names out : List ℕ) (answer : Result ℕ Refusal) (out' : List ℕ)
    (w : Writes k o names out answer out')
    (z : ℕ) (e : answer ≡ Ok z) where
  is : written_of k o (length names) (length out) ≡ Ok z
  is = sym w.answers ∙ e

  pub written_front : out' ≡ encode k o names ++ drop (length (encode k o names)) out
  written_front = w.cells ∙ ap (λ (x : Result ℕ Refusal). filled x (encode k o names) out) is

  pub written_length : z ≡ length (encode k o names)
  written_length = let g =
      goes k o (length names) (length out) z is in g.size ∙ sym (length_encode k o names g.count)

  -- decodes to what was given, under each table that has the opcode
  module _ (signs : SignsFit o) where
    formed : Formed k o names
    formed = let g = goes k o (length names) (length out) z is in
        record { shape = g.shape; signs = signs; count = g.count }

    pub written_decodes : (last : ℕ) → k ≤ last → (at : ℕ) → decode last at out' ≡ Ok (Some (instr k o z))
    written_decodes last l at =
        rw (written_front, written_length)
        (decode_encode last k o names (drop (length (encode k o names)) out) l formed at)
