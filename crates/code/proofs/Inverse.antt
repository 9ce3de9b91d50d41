-- The decoder and the encoding are each other's inverse, names included.
-- Assumes nothing.
use Rattle.code.specs.Decode.{instr}
use Rattle.std.specs.Prelude.{Ok, Some}
use mathlib.Core.Path.{◌≡◌, refl, sym, ap, ◌∙◌}
use mathlib.Core.List.{List, [], ◌∷◌, ◌++◌, append_assoc}
use Prim.Native.Nat.{ℕ, zero, suc, ◌+◌, ◌*◌, ◌/◌, ◌%◌, ◌<◌, ◌≤◌}
use native.Mathlib.Omega.{arith}
use native.Mathlib.Nat.{not-suc-le-zero, le_of_suc-le-suc}
use lib.ListN.{length, get_or, take, drop, length-append, length-drop}
use lib.Seq.{take-add, take_at, drop_at, get_or-drop, length-take-le}
use mir.Syntax.{w8, w16}
use Rattle.base.proofs.Lists.{take_below}
use Rattle.op.specs.Shapes.{operand_shape, size_of}
use Rattle.op.specs.declared.Operand.{Operand}
use Rattle.op.specs.declared.Operand.TheVariants as O
use Rattle.op.specs.declared.Shape.{Shape}
use Rattle.op.specs.declared.Shape.TheVariants as S
use Rattle.code.specs.Bytes.{word_at, names_bytes, words_in, signed, unsigned}
use Rattle.code.specs.Decode.{operand_in, names_in, decode, names_at}
use Rattle.code.specs.Encode.{operand_bytes, encode, SignsFit, Formed}
use Rattle.code.specs.Reading.{Instruction, before, instructions_from}
use Rattle.code.proofs.Twos.{signed_unsigned, unsigned_signed}
use Rattle.code.proofs.Decoding.{Decoded, decoded, decode_whole, names_part}
use Rattle.code.proofs.Ranges.{word_small}
use Rattle.code.proofs.Operands.{size_by_names_lem}
use Rattle.code.proofs.Instructions.{instructions_step}

-- lengths

pub length_names : (ns : List ℕ) → length (names_bytes ns) ≡ 2 * length ns
length_names [] = refl
length_names (n ∷ ns) = ap (λ (k : ℕ). suc (suc k)) (length_names ns) ∙ omega arith

-- the opcode and the operand's bytes are the fixed part
pub length_operand : (o : Operand) → suc (length (operand_bytes o)) ≡ size_of (operand_shape o) 0
unfolding size_of
length_operand O.None = refl
length_operand (O.U8 a) = refl
length_operand (O.I8 z) = refl
length_operand (O.U16 a) = refl
length_operand (O.Offset z) = refl
length_operand (O.U8U8 a b) = refl
length_operand (O.U16U8 a b) = refl
length_operand (O.U16U16 a b) = refl
length_operand (O.U16U8U8 a b c) = refl
length_operand (O.CallKw positional names) = refl
length_operand (O.CallAttrKw attribute positional names) = refl
length_operand (O.U16U16U8 a b c) = refl

pub length_encode : (k : ℕ) (o : Operand) (names : List ℕ) → names_in o ≡ length names
    → length (encode k o names) ≡ size_of (operand_shape o) (length names)
unfolding encode
length_encode k o names e =
    let s : size_of (operand_shape o) (length names) ≡ size_of (operand_shape o) 0 + 2 * names_in o =
    ap (size_of (operand_shape o)) (sym e) ∙ size_by_names_lem o in
    omega (arith, length-append (operand_bytes o) (names_bytes names), length_names names, length_operand o, s)

-- names

pub words_names : (ns : List ℕ) → words_in (names_bytes ns) ≡ ns
words_names [] = refl
words_names (n ∷ ns) =
    let e : n % 256 + 256 * (n / 256) ≡ n = omega arith in
    cc (words_names ns)

pub names_words : (n : ℕ) (xs : List ℕ) → length xs ≡ 2 * n → ((i : ℕ) → get_or xs i 0 < 256)
    → names_bytes (words_in xs) ≡ xs
names_words n [] e h = refl
names_words zero (a ∷ xs) e h = absurd (omega arith)
names_words (suc n) (a ∷ []) e h = absurd (omega arith)
names_words (suc n) (a ∷ (b ∷ xs)) e h =
    let l : (a + 256 * b) % 256 ≡ a = omega (arith, h 0) in
    let g : (a + 256 * b) / 256 ≡ b = omega (arith, h 0) in
    cc (names_words n xs (omega arith) (λ (i : ℕ). h (suc (suc i))))

-- what is written decodes

word : (a : ℕ) → a % 256 + 256 * (a / 256) ≡ a
word a = omega arith

pub read_back : (k : ℕ) (o : Operand) (t : List ℕ) → SignsFit o
    → operand_in (operand_shape o) (k ∷ (operand_bytes o ++ t)) ≡ o
unfolding operand_in
read_back k O.None t r = refl
read_back k (O.U8 a) t r = refl
read_back k (O.I8 z) t r = ap O.I8 (signed_unsigned w8 256 refl refl z r)
read_back k (O.U16 a) t r = ap O.U16 (word a)
read_back k (O.Offset z) t r = ap O.Offset (ap (signed 65536) (word (unsigned 65536 z)) ∙ signed_unsigned w16 65536 refl refl z r)
read_back k (O.U8U8 a b) t r = refl
read_back k (O.U16U8 a b) t r = cc (word a)
read_back k (O.U16U16 a b) t r = cc (word a, word b)
read_back k (O.U16U8U8 a b c) t r = cc (word a)
read_back k (O.CallKw positional names) t r = refl
read_back k (O.CallAttrKw attribute positional names) t r = cc (word attribute)
read_back k (O.U16U16U8 a b c) t r = cc (word a, word b)

-- under each table that has the opcode, whatever follows
module _ (last k : ℕ) (o : Operand) (names rest : List ℕ) (l : k ≤ last) (f : Formed k o names) where
  pub decode_encode : (at : ℕ) → decode last at (encode k o names ++ rest) ≡ Ok (Some (instr k o (length (encode k o names))))
  unfolding encode
  decode_encode at =
      let s = operand_shape o in
      let t : List ℕ = (operand_bytes o ++ names_bytes names) ++ rest in
      let a : t ≡ operand_bytes o ++ (names_bytes names ++ rest) =
      append_assoc (operand_bytes o) (names_bytes names) rest in
      let b : operand_in s (k ∷ t) ≡ o =
      ap (λ (x : List ℕ). operand_in s (k ∷ x)) a ∙ read_back k o (names_bytes names ++ rest) f.signs in
      let z : size_of s (names_in o) ≡ length (encode k o names) =
      ap (size_of s) f.count ∙ sym (length_encode k o names f.count) in
      decode_whole last at k t s o l f.shape b (omega (arith, z, length-append (encode k o names) rest))
      ∙ ap (λ (n : ℕ). Ok (Some (instr k o n))) z

  pub names_encode : names_at last (encode k o names ++ rest) ≡ names_bytes names
  unfolding encode
  names_encode =
      let p : List ℕ = k ∷ operand_bytes o in
      let u : List ℕ = p ++ (names_bytes names ++ rest) in
      let a : encode k o names ++ rest ≡ u =
      ap (λ (x : List ℕ). k ∷ x) (append_assoc (operand_bytes o) (names_bytes names) rest) in
      let b : length (names_bytes names) ≡ 2 * names_in o = omega (arith, length_names names, f.count) in
      names_part last (encode k o names ++ rest) k o (length (encode k o names))
      (decoded last 0 (encode k o names ++ rest) k o (length (encode k o names)) (decode_encode 0))
      ∙ rw (a, drop_at p (names_bytes names ++ rest) (size_of (operand_shape o) 0) (length_operand o))
      (take_at (names_bytes names) rest (2 * names_in o) b)

-- what decodes is written back

-- the n elements from i on
abbrev reads : ℕ → ℕ → List ℕ → List ℕ
reads zero i u = []
reads (suc n) i u = get_or u i 0 ∷ reads n (suc i) u

reads_cons : (n i a : ℕ) (u : List ℕ) → reads n (suc i) (a ∷ u) ≡ reads n i u
reads_cons zero i a u = refl
reads_cons (suc n) i a u = ap (λ (t : List ℕ). get_or u i 0 ∷ t) (reads_cons n (suc i) a u)

take_reads : (n : ℕ) (u : List ℕ) → n ≤ length u → take n u ≡ reads n 0 u
take_reads zero u h = refl
take_reads (suc n) [] h = absurd (not-suc-le-zero h)
take_reads (suc n) (a ∷ u) h =
    ap (λ (t : List ℕ). a ∷ t) (take_reads n u (le_of_suc-le-suc h) ∙ sym (reads_cons n 0 a u))

module _ (u : List ℕ) (bytes : (i : ℕ) → get_or u i 0 < 256) where
  low : (i : ℕ) → word_at u i % 256 ≡ get_or u i 0
  low i = omega (arith, bytes i, bytes (i + 1))

  high : (i : ℕ) → word_at u i / 256 ≡ get_or u (i + 1) 0
  high i = omega (arith, bytes i, bytes (i + 1))

  written_back : (s : Shape) → get_or u 0 0 ∷ operand_bytes (operand_in s u) ≡ reads (size_of s 0) 0 u
  unfolding operand_in size_of
  written_back S.None = refl
  written_back S.U8 = refl
  written_back S.I8 = cc (unsigned_signed w8 256 refl refl (get_or u 1 0) (bytes 1))
  written_back S.U16 = cc (low 1, high 1)
  written_back S.Offset = simp (unsigned_signed w16 65536 refl refl (word_at u 1) (word_small u bytes 1)) (cc (low 1, high 1))
  written_back S.U8U8 = refl
  written_back S.U16U8 = cc (low 1, high 1)
  written_back S.U16U16 = cc (low 1, high 1, low 3, high 3)
  written_back S.U16U8U8 = cc (low 1, high 1)
  written_back S.CallKw = refl
  written_back S.CallAttrKw = cc (low 1, high 1)
  written_back S.U16U16U8 = cc (low 1, high 1, low 3, high 3)

  module _ (last k : ℕ) (o : Operand) (z : ℕ) (d : Decoded last u k o z) where
    fixed : k ∷ operand_bytes o ≡ take (size_of (operand_shape o) 0) u
    fixed =
        let s = operand_shape o in
        let e : operand_bytes o ≡ operand_bytes (operand_in s u) = ap operand_bytes d.operand in
        rw (take_reads (size_of s 0) u (omega (arith, d.base, d.fits)), ← written_back s, ← d.opcode, ← e)

    pub encode_decode : encode k o (words_in (names_at last u)) ≡ take z u
    unfolding encode
    encode_decode =
        let b = size_of (operand_shape o) 0 in
        let n = names_in o in
        let x : List ℕ = take (2 * n) (drop b u) in
        let l : length x ≡ 2 * n =
        length-take-le (2 * n) (drop b u) (rw length-drop (omega (arith, d.base, d.fits))) in
        let small : ((i : ℕ) → get_or x i 0 < 256) =
        take_below (2 * n) (drop b u) (λ (i : ℕ). rw get_or-drop (bytes (b + i))) in
        let e : names_bytes (words_in (names_at last u)) ≡ x =
        ap (λ (y : List ℕ). names_bytes (words_in y)) (names_part last u k o z d) ∙ names_words n x l small in
        ap (λ (y : List ℕ). k ∷ (operand_bytes o ++ y)) e ∙ ap (λ (y : List ℕ). y ++ x) fixed
        ∙ sym (take-add b (2 * n) u) ∙ ap (λ (i : ℕ). take i u) (sym d.base)

-- a well formed instruction's bytes are read as it, under each table that has its opcode, whatever follows
pub reads_encoded : (last at : ℕ) (i : Instruction) (rest : List ℕ) → i.opcode ≤ last
    → Formed i.opcode i.operand i.names
    → (let bytes = encode i.opcode i.operand i.names in
    instructions_from last at (bytes ++ rest)
    ≡ before (record { offset = at; what = i; size = length bytes }) (instructions_from last (at + length bytes) rest))
reads_encoded last at i rest l f =
    let bytes = encode i.opcode i.operand i.names in
    let d = decode_encode last i.opcode i.operand i.names rest l f at in
    let n = names_encode last i.opcode i.operand i.names rest l f in
    let behind = drop_at bytes rest (length bytes) refl in
    instructions_step last at (bytes ++ rest) ∙ rw (d, n, words_names i.names, behind)
