-- The numbers of operands that are read from bytes are in the ranges of their fields.
-- Assumes nothing.
use mathlib.Core.Path.{refl}
use mathlib.Core.List.{List}
use Prim.Native.Nat.{ℕ, ◌+◌, ◌<◌}
use native.Mathlib.Omega.{arith}
use lib.ListN.{get_or}
use lib.Signed.{mag}
use mir.Syntax.{w8, w16}
use Rattle.op.specs.Shapes.{operand_shape}
use Rattle.op.specs.declared.Operand.{Operand}
use Rattle.op.specs.declared.Operand.TheVariants as O
use Rattle.op.specs.declared.Shape.{Shape}
use Rattle.op.specs.declared.Shape.TheVariants as S
use Rattle.code.specs.Bytes.{word_at}
use Rattle.code.specs.Decode.{operand_in}
use Rattle.code.proofs.Twos.{signed_small}
use Rattle.code.proofs.Decoding.{Decoded}

-- the numbers of an operand are in the ranges of its fields
abbrev pub InRange : Operand → Type 0
InRange O.None = Unit {0}
InRange (O.U8 a) = a < 256
InRange (O.I8 z) = mag z < 128
InRange (O.U16 a) = a < 65536
InRange (O.Offset z) = mag z < 32768
InRange (O.U8U8 a b) = (a < 256) × (b < 256)
InRange (O.U16U8 a b) = (a < 65536) × (b < 256)
InRange (O.U16U16 a b) = (a < 65536) × (b < 65536)
InRange (O.U16U8U8 a b c) = (a < 65536) × (b < 256) × (c < 256)
InRange (O.CallKw positional names) = (positional < 256) × (names < 256)
InRange (O.CallAttrKw attribute positional names) = (attribute < 65536) × (positional < 256) × (names < 256)
InRange (O.U16U16U8 a b c) = (a < 65536) × (b < 65536) × (c < 256)

module _ (u : List ℕ) (bytes : (i : ℕ) → get_or u i 0 < 256) where
  pub word_small : (i : ℕ) → word_at u i < 65536
  word_small i = omega (arith, bytes i, bytes (i + 1))

  in_range : (s : Shape) → InRange (operand_in s u)
  unfolding operand_in
  in_range S.None = tt
  in_range S.U8 = bytes 1
  in_range S.I8 = signed_small w8 256 refl refl (get_or u 1 0) (bytes 1)
  in_range S.U16 = word_small 1
  in_range S.Offset = signed_small w16 65536 refl refl (word_at u 1) (word_small 1)
  in_range S.U8U8 = (bytes 1, bytes 2)
  in_range S.U16U8 = (word_small 1, bytes 3)
  in_range S.U16U16 = (word_small 1, word_small 3)
  in_range S.U16U8U8 = (word_small 1, bytes 3, bytes 4)
  in_range S.CallKw = (bytes 1, bytes 2)
  in_range S.CallAttrKw = (word_small 1, bytes 3, bytes 4)
  in_range S.U16U16U8 = (word_small 1, word_small 3, bytes 5)

  -- what is read from bytes is in range
  pub decoded_range : {last : ℕ} (k : ℕ) (o : Operand) (z : ℕ) → Decoded last u k o z → InRange o
  decoded_range k o z d = rw d.operand (in_range (operand_shape o))
