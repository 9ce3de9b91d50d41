-- An instruction by its name and its operand column, and its bytes.
-- Assumes nothing.
use Rattle.std.specs.Prelude.{Ok, Err, Some, None, Result, Option}
use mathlib.Core.Path.{◌≡◌, refl, sym, ap, ◌∙◌}
use mathlib.Core.Bool.{Bool, true, false, cond}
use mathlib.Core.List.{List, [], ◌∷◌}
use Prim.Native.Nat.{ℕ, zero, suc, ◌+◌, ◌-◌, ◌≤◌, ◌<◌}
use native.Mathlib.Decide.{dec_lt}
use native.Mathlib.Omega.{arith}
use lib.Dec.{leb}
use lib.IntN.{ℤ}
use lib.ListN.{length, take, drop, drop_of_length-le}
use borrow.Author.Tests.{le-leb, lt-leb}
use Rattle.base.proofs.Bools.{clash}
use Rattle.op.specs.Opcodes.{last_opcode, known}
use Rattle.op.specs.Shapes.{shape_of, operand_shape, size_of}
use Rattle.op.specs.declared.Operand.{Operand}
use Rattle.op.specs.declared.Operand.TheVariants as O
use Rattle.op.specs.declared.Refusal.{Refusal}
use Rattle.op.specs.declared.Refusal.TheVariants.{Full}
use Rattle.op.specs.declared.Shape.{Shape}
use Rattle.op.specs.declared.Table.TheVariants.{Code}
use Rattle.code.specs.Decode.{names_in}
use Rattle.code.specs.Encode.{encode, written_of, filled, Writes}
use Rattle.code.proofs.Decoding.{shape_known}
use Rattle.code.proofs.Inverse.{length_encode}
use Rattle.code.proofs.Ranges.{InRange}
use Rattle.code.proofs.Writing.{written_full, written_size}
use Rattle.text.specs.Row.{wholes, operands_of}
use Rattle.readback.specs.Operands.{Said, said, and_then, operand_for}
use Rattle.readback.specs.Formed.{said_by, Good, Bad}
use Rattle.readback.specs.declared.operands.Spoken.{Spoken}
use Rattle.readback.specs.Inner.{spoken_with, sign_first, spoken_of}
use Rattle.readback.specs.Lined.{said_in, stored_as, Lays, Storable}
use Rattle.readback.proofs.Saying.{nothing, got, said_only}
use Rattle.readback.proofs.Speaking.{length_wholes, length_signs, drop_signs}

-- the bytes of an instruction

abbrev pub line_by : Result ℕ Refusal → Result ℕ Refusal
line_by (Ok z) = Ok z
line_by (Err r) = Err r

module _ (k : ℕ) (o : Operand) (names : List ℕ) (s : Storable k o names) where
  abbrev Bytes : List ℕ
  Bytes = encode k o names

  written_is : (room : ℕ)
      → written_of k o (length names) room
      ≡ cond (leb (length Bytes) room) (Ok (length Bytes)) (Err (Full Code))
  written_is room = by (dec_lt room (length Bytes))
    where
      size : length Bytes ≡ size_of (operand_shape o) (length names)
      size = length_encode k o names s.well.count

      by : Dec (room < length Bytes)
          → written_of k o (length names) room
          ≡ cond (leb (length Bytes) room) (Ok (length Bytes)) (Err (Full Code))
      by (yes h) =
          rw (lt-leb (length Bytes) room h)
          (sym (written_full k o (length names) room (operand_shape o) s.well.shape s.few refl s.well.count
          (length Bytes) size h))
      by (no h) =
          rw (le-leb (length Bytes) room (omega arith))
          (sym (written_size k o (length names) room (operand_shape o) s.well.shape s.few refl s.well.count
          (length Bytes) size (omega arith)))

  pub lays_store : (old out : List ℕ) (w : Result ℕ Refusal) → Writes k o names old w out → (l : Result ℕ Refusal) → l ≡ line_by w
      → Lays (stored_as Bytes (length old)) old l out
  unfolding stored_as
  lays_store old out w x l e =
      let is = written_is (length old) in
      by (leb (length Bytes) (length old)) (e ∙ ap line_by (x.answers ∙ is))
      (x.cells ∙ ap (λ (y : Result ℕ Refusal). filled y Bytes old) is)
    where
      by : (b : Bool) → l ≡ line_by (cond b (Ok (length Bytes)) (Err (Full Code)))
          → out ≡ filled (cond b (Ok (length Bytes)) (Err (Full Code))) Bytes old
          → Lays (cond b (Good Bytes) (Bad (Full Code))) old l out
      by true p q = record { answers = p; cells = q }
      by false p q = record { answers = p; cells = q }

-- an instruction by its name and its operand column

chosen : (b : Bool) (x : Option Said) (y : Said) → cond b x None ≡ Some y → (b ≡ true) × (x ≡ Some y)
chosen true x y e = (refl, e)
chosen false x y e = absurd (nothing e)

neither : (b : Bool) (x : Option Said) → x ≡ None → cond b x None ≡ None
neither true x e = e
neither false x e = refl

known_shape : (k : ℕ) (s : Shape) → shape_of k ≡ Ok s → known k ≡ true
unfolding known
known_shape k s e = le-leb k last_opcode (shape_known k s e)

module _ (k : ℕ) (zs : Option (List ℤ)) where
  pub said_unknown : (r : Refusal) → shape_of k ≡ Err r → said_in k zs ≡ None
  unfolding said_in and_then
  said_unknown r e = neither (known k) (and_then zs (said_by (shape_of k))) (rw e (by zs))
    where
      by : (y : Option (List ℤ)) → and_then y (said_by (Err r)) ≡ None
      by None = refl
      by (Some l) = refl

  module _ (s : Shape) (is : shape_of k ≡ Ok s) where
    pub said_none : and_then zs (operand_for s) ≡ None → said_in k zs ≡ None
    unfolding said_in
    said_none e = neither (known k) (and_then zs (said_by (shape_of k))) (rw is e)

    pub said_some : (l : List ℤ) (x : Said) → zs ≡ Some l → operand_for s l ≡ Some x → said_in k zs ≡ Some x
    unfolding said_in and_then
    said_some l x q e = rw (known_shape k s is, is, q, e)

  -- what it says that they are one
  pub record Saying (x : Said) : Type 0 where
    pub known_is : known k ≡ true
    pub read : and_then zs (said_by (shape_of k)) ≡ Some x
    pub storable : Storable k x.operand x.names

  few_names : (o : Operand) → InRange o → names_in o ≤ 255
  few_names O.None r = omega arith
  few_names (O.U8 a) r = omega arith
  few_names (O.I8 z) r = omega arith
  few_names (O.U16 a) r = omega arith
  few_names (O.Offset z) r = omega arith
  few_names (O.U8U8 a b) r = omega arith
  few_names (O.U16U8 a b) r = omega arith
  few_names (O.U16U16 a b) r = omega arith
  few_names (O.U16U8U8 a b c) r = omega arith
  few_names (O.CallKw p n) r = omega (arith, r.1)
  few_names (O.CallAttrKw a p n) r = omega (arith, r.2)
  few_names (O.U16U16U8 a b c) r = omega arith

  by_shape : (x : Said) (l : List ℤ) (p : Result Shape Refusal) → shape_of k ≡ p → said_by p l ≡ Some x
      → Storable k x.operand x.names
  by_shape x l (Err r) e q = absurd (nothing q)
  by_shape x l (Ok s) e q =
      let y = said_only l x s q in
      record {
        well = record { shape = e ∙ ap Ok (sym y.shape); signs = y.signs; count = y.count };
        few = omega (arith, y.count, few_names x.operand y.range);
      }

  pub saying : (x : Said) → said_in k zs ≡ Some x → Saying x
  unfolding said_in
  saying x e =
      let c = chosen (known k) (and_then zs (said_by (shape_of k))) x e in
      let g = got zs (said_by (shape_of k)) x c.1 in
      record { known_is = c.0; read = c.1; storable = by_shape x g.value (shape_of k) refl g.rest }

pub unsaid_column : (s : Shape) (zs : Option (List ℤ)) (l : List ℤ) → zs ≡ Some l → operand_for s l ≡ None
    → and_then zs (operand_for s) ≡ None
unfolding and_then
unsaid_column s zs l q e = rw (q, e)

-- the operand that was answered, and its names, the last cells
module _ (s : Shape) (minus : Bool) (ms : List ℕ) where
  same_spoken : {s t : Spoken} → Some s ≡ Some t → s ≡ t
  same_spoken e = cc

  spoken_by_lem : (y : Option Said) → operand_for s (sign_first minus ms) ≡ y → (o : Operand) (from : ℕ)
      → Some (spoken_with o from) ≡ spoken_of (length ms) y
      → (x : Said) × (operand_for s (sign_first minus ms) ≡ Some x) × (x.operand ≡ o)
      × (from ≡ length ms - length x.names)
  unfolding spoken_of
  spoken_by_lem None q o from e = clash cc
  spoken_by_lem (Some x) q o from e = (
    x,
    q,
    ap (λ (s : Spoken). s.operand) (sym (same_spoken e)),
    ap (λ (s : Spoken). s.names) (same_spoken e),
  )

  pub spoken_none : None ≡ spoken_of (length ms) (operand_for s (sign_first minus ms))
      → operand_for s (sign_first minus ms) ≡ None
  unfolding spoken_of
  spoken_none e = by (operand_for s (sign_first minus ms)) e
    where
      by : (y : Option Said) → None ≡ spoken_of (length ms) y → y ≡ None
      by None e = refl
      by (Some x) e = clash cc

  wholes_same : (a b : List ℕ) → wholes a ≡ wholes b → a ≡ b
  wholes_same [] [] e = refl
  wholes_same [] (y ∷ b) e = clash cc
  wholes_same (x ∷ a) [] e = clash cc
  wholes_same (x ∷ a) (y ∷ b) e =
      let p : x ≡ y = cc in
      let q : wholes a ≡ wholes b = cc in
      let r = wholes_same a b q in
      cc

  -- no names, or those behind a first number
  no_names : (ns : List ℕ) → 0 ≡ length ns → ns ≡ drop (length ms - length ns) ms
  no_names [] e = sym (drop_of_length-le ms {i = length ms - 0} (omega arith))
  no_names (n ∷ ns) e = absurd (omega arith)

  last_names : (i : ℕ) (ns : List ℕ) → drop (suc i) (sign_first minus ms) ≡ wholes ns → suc i + length ns ≡ length ms
      → ns ≡ drop (length ms - length ns) ms
  last_names i ns e l =
      let at : length ms - length ns ≡ suc i = omega arith in
      sym (ap (λ (n : ℕ). drop n ms) at ∙ wholes_same (drop (suc i) ms) ns (sym (drop_signs minus ms i) ∙ e))

  names_last : (o : Operand) (ns : List ℕ) → sign_first minus ms ≡ operands_of o ns → names_in o ≡ length ns
      → ns ≡ drop (length ms - length ns) ms
  names_last O.None ns e c = no_names ns c
  names_last (O.U8 a) ns e c = no_names ns c
  names_last (O.I8 z) ns e c = no_names ns c
  names_last (O.U16 a) ns e c = no_names ns c
  names_last (O.Offset z) ns e c = no_names ns c
  names_last (O.U8U8 a b) ns e c = no_names ns c
  names_last (O.U16U8 a b) ns e c = no_names ns c
  names_last (O.U16U16 a b) ns e c = no_names ns c
  names_last (O.U16U8U8 a b d) ns e c = no_names ns c
  names_last (O.CallKw p n) ns e c =
      last_names 1 ns (ap (drop 2) e) (omega (arith, ap length e, length_signs minus ms, length_wholes ns))
  names_last (O.CallAttrKw a p n) ns e c =
      last_names 2 ns (ap (drop 3) e) (omega (arith, ap length e, length_signs minus ms, length_wholes ns))
  names_last (O.U16U16U8 a b d) ns e c = no_names ns c

  pub spoken_some : (o : Operand) (from : ℕ) → Some (spoken_with o from) ≡ spoken_of (length ms) (operand_for s (sign_first minus ms))
      → (from ≤ length ms) × (operand_for s (sign_first minus ms) ≡ Some (said o (drop from ms)))
  spoken_some o from e =
      let b = spoken_by_lem (operand_for s (sign_first minus ms)) refl o from e in
      let x = b.0 in
      let y = said_only (sign_first minus ms) x s b.1 in
      let n = names_last x.operand x.names y.numbers y.count ∙ ap (λ (i : ℕ). drop i ms) (sym b.3) in
      let said_is = ap (λ (p : Operand). Some (said p x.names)) b.2 ∙ ap (λ (l : List ℕ). Some (said o l)) n in
      (omega (arith, b.3), b.1 ∙ said_is)

-- the part of the cells that holds the names
pub names_part : (cells : List ℕ) (from count : ℕ) → from ≤ count
    → drop from (take count cells) ≡ take (count - from) (drop from cells)
names_part cells zero count h = let e : count - 0 ≡ count = omega arith in ap (λ (n : ℕ). take n cells) (sym e)
names_part cells (suc from) zero h = absurd (omega arith)
names_part [] (suc from) (suc count) h = sym (take_nil (suc count - suc from))
  where
    take_nil : (n : ℕ) → take {A = ℕ} n [] ≡ []
    take_nil zero = refl
    take_nil (suc n) = refl
names_part (x ∷ cells) (suc from) (suc count) h =
    let e : count - from ≡ suc count - suc from = omega arith in
    names_part cells from count (omega arith) ∙ ap (λ (n : ℕ). take n (drop from cells)) e
