-- How long a line can be: 255 keyword names are the most.
-- Assumes nothing.
use mathlib.Core.Path.{◌≡◌, refl, ap}
use mathlib.Core.List.{List, [], ◌∷◌, ◌++◌}
use Prim.Native.Nat.{ℕ, suc, ◌+◌, ◌*◌, ◌≤◌, ◌<◌, ◌^◌}
use native.Mathlib.Omega.{arith}
use lib.IntN.{ℤ, pos, negsuc, ◌+ℤ◌}
use lib.ListN.{length, get_or, take, drop, length-append, length-take}
use lib.Signed.{mag}
use Rattle.base.proofs.Lists.{take_below, drop_below}
use Rattle.op.specs.Opcodes.{last_opcode}
use Rattle.op.specs.Shapes.{operand_shape, size_of}
use Rattle.op.specs.declared.Operand.{Operand}
use Rattle.op.specs.declared.Operand.TheVariants as O
use Rattle.code.specs.Decode.{names_in, names_at}
use Rattle.code.specs.Tables.{code_limit}
use Rattle.code.proofs.Decoding.{Decoded, decoded, names_part}
use Rattle.code.proofs.Ranges.{InRange, decoded_range}
use Rattle.text.specs.Decimal.{decimal, whole_text}
use Rattle.text.specs.Fields.{names_text, call_text, front_text, tail_text, operands_at, back_text, line_text, fault_text}
use Rattle.text.specs.Fields.{Found, Lean}
use Rattle.text.specs.Row.{operand_column, target_of, target_column}
use Rattle.text.proofs.Decimals.{decimal_short, decimal_fits}
use Rattle.text.proofs.Names.{names_bound}
use Rattle.text.proofs.Operands.{call_text_lem, attr_text}
use Rattle.text.proofs.Targets.{mag_add}

-- numbers of two bytes, and whole numbers a little larger
word_short : (n : ℕ) → n < 65536 → length (decimal n) ≤ 5
word_short n h = decimal_short 5 n (omega arith) (omega arith)

target_number_lem : (z : ℤ) → mag z < 9999999 → length (whole_text z) ≤ 8
target_number_lem (pos n) h = omega (arith, decimal_short 7 n (omega arith) (omega arith))
target_number_lem (negsuc n) h = omega (arith, decimal_short 7 (suc n) (omega arith) (omega arith))

whole_short : (z : ℤ) → mag z < 99999 → length (whole_text z) ≤ 6
whole_short (pos n) h = omega (arith, decimal_short 5 n (omega arith) (omega arith))
whole_short (negsuc n) h = omega (arith, decimal_short 5 (suc n) (omega arith) (omega arith))

two_short : (a b : ℕ) → a < 65536 → b < 65536 → length (operand_column (pos a ∷ pos b ∷ [])) ≤ 11
two_short a b h g = omega (arith, length-append (decimal a) (44 ∷ decimal b), word_short a h, word_short b g)

three_short : (a b c : ℕ) → a < 65536 → b < 65536 → c < 65536 → length (operand_column (pos a ∷ pos b ∷ pos c ∷ [])) ≤ 17
three_short a b c h g k =
    omega (
      arith,
      length-append (decimal a) (44 ∷ operand_column (pos b ∷ pos c ∷ [])),
      word_short a h,
      two_short b c g k,
    )

call_short : (p n : ℕ) (s : List ℕ) → p < 256 → n < 256 → length s ≤ 510 → ((i : ℕ) → get_or s i 0 < 256) → length (call_text p n s) ≤ 1541
call_short p n s h g l b =
    omega (
      arith,
      length-append (decimal p) (44 ∷ decimal n ++ names_text s),
      length-append (decimal n) (names_text s),
      word_short p (omega arith),
      word_short n (omega arith),
      names_bound s b,
    )

-- the operands, and the target
module _ (u : List ℕ) (few : length (names_at last_opcode u) ≤ 510) (bytes : (i : ℕ) → get_or (names_at last_opcode u) i 0 < 256) where
  operands_short : (o : Operand) → InRange o → length (operands_at o u) ≤ 1547
  operands_short O.None r = omega arith
  operands_short (O.U8 a) r = omega (arith, word_short a (omega arith))
  operands_short (O.I8 z) r = omega (arith, whole_short z (omega arith))
  operands_short (O.U16 a) r = omega (arith, word_short a r)
  operands_short (O.Offset z) r = omega (arith, whole_short z (omega arith))
  operands_short (O.U8U8 a b) r = omega (arith, two_short a b (omega arith) (omega arith))
  operands_short (O.U16U8 a b) r = omega (arith, two_short a b (omega arith) (omega arith))
  operands_short (O.U16U16 a b) r = omega (arith, two_short a b r.0 r.1)
  operands_short (O.U16U8U8 a b c) r = omega (arith, three_short a b c (omega arith) (omega arith) (omega arith))
  operands_short (O.CallKw p n) r = omega (arith, ap length (call_text_lem u (names_at last_opcode u) p n refl), call_short p n (names_at last_opcode u) r.0 r.1 few bytes)
  operands_short (O.CallAttrKw a p n) r =
      omega (
        arith,
        ap length (attr_text u (names_at last_opcode u) a p n refl),
        length-append (decimal a) (44 ∷ call_text p n (names_at last_opcode u)),
        word_short a r.0,
        call_short p n (names_at last_opcode u) r.1 r.2 few bytes,
      )
  operands_short (O.U16U16U8 a b c) r = omega (arith, three_short a b c (omega arith) (omega arith) (omega arith))

target_short : (at : ℕ) (o : Operand) → at ≤ code_limit → InRange o → length (target_column (target_of at o)) ≤ 8
target_short at O.None h r = omega arith
target_short at (O.U8 a) h r = omega arith
target_short at (O.I8 z) h r = omega arith
target_short at (O.U16 a) h r = omega arith
target_short at (O.Offset z) h r = target_number_lem (pos (at + 3) +ℤ z) (omega (arith, mag_add (at + 3) z))
target_short at (O.U8U8 a b) h r = omega arith
target_short at (O.U16U8 a b) h r = omega arith
target_short at (O.U16U16 a b) h r = omega arith
target_short at (O.U16U8U8 a b c) h r = omega arith
target_short at (O.CallKw p n) h r = omega arith
target_short at (O.CallAttrKw a p n) h r = omega arith
target_short at (O.U16U16U8 a b c) h r = omega arith

-- the names of an instruction that decodes are at most 255, in bytes
names_few : (o : Operand) → InRange o → names_in o ≤ 255
names_few O.None r = omega arith
names_few (O.U8 a) r = omega arith
names_few (O.I8 z) r = omega arith
names_few (O.U16 a) r = omega arith
names_few (O.Offset z) r = omega arith
names_few (O.U8U8 a b) r = omega arith
names_few (O.U16U8 a b) r = omega arith
names_few (O.U16U16 a b) r = omega arith
names_few (O.U16U8U8 a b c) r = omega arith
names_few (O.CallKw p n) r = omega arith
names_few (O.CallAttrKw a p n) r = omega arith
names_few (O.U16U16U8 a b c) r = omega arith

-- the offset of a line
pub front_short : (at : ℕ) → at ≤ code_limit → length (front_text at) ≤ 8
front_short at h = omega (arith, length-append (decimal at) (9 ∷ []), decimal_short 7 at (omega arith) (omega arith))

module _ (at : ℕ) (o : Operand) (code : List ℕ) (f : Found at o (drop at code)) (bytes : (i : ℕ) → get_or code i 0 < 256)
  where
    u : List ℕ
    u = drop at code

    below : (i : ℕ) → get_or (drop at code) i 0 < 256
    below i = drop_below at code bytes i

    is_decoded : Decoded last_opcode (drop at code) f.opcode o f.size
    is_decoded = decoded last_opcode at (drop at code) f.opcode o f.size f.is

    ranged : InRange o
    ranged = decoded_range (drop at code) below f.opcode o f.size is_decoded

    names_are : names_at last_opcode (drop at code)
        ≡ take (2 * names_in o) (drop (size_of (operand_shape o) 0) (drop at code))
    names_are = names_part last_opcode (drop at code) f.opcode o f.size is_decoded

    few : length (names_at last_opcode (drop at code)) ≤ 510
    few = rw names_are (simp length-take (omega (arith, names_few o ranged)))

    in_bytes : (i : ℕ) → get_or (names_at last_opcode (drop at code)) i 0 < 256
    in_bytes i = rw names_are (take_below (2 * names_in o) (drop (size_of (operand_shape o) 0) (drop at code))
        (drop_below (size_of (operand_shape o) 0) (drop at code) below) i)

    pub lean : Lean at o (drop at code)
    lean = record {
      low = f.low;
      back =
          omega (
            arith,
            length-append (operands_at o (drop at code)) (tail_text at o),
            length-append (target_column (target_of at o)) (10 ∷ []),
            operands_short (drop at code) few in_bytes o ranged,
            target_short at o f.low ranged,
          );
    }

-- all of a line but its name
pub line_short : (at : ℕ) (o : Operand) (u front name : List ℕ) → Lean at o u → length front ≤ 11
    → length (front ++ line_text at name o u) ≤ 1600 + length name
line_short at o u front name l h =
    omega (
      arith,
      front_short at l.low,
      l.back,
      length-append front (line_text at name o u),
      length-append (front_text at) (name ++ back_text at o u),
      length-append name (back_text at o u),
    )

-- a fault line
pub fault_short : (at n : ℕ) → at < 2 ^ 64 → n < 256 → length (fault_text at n) ≤ 32
fault_short at n h g =
    omega (
      arith,
      length-append (front_text at) (decimal n ++ (10 ∷ [])),
      length-append (decimal at) (9 ∷ []),
      length-append (decimal n) (10 ∷ []),
      decimal_fits at h,
      word_short n (omega arith),
    )
