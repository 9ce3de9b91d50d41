-- Laws of the step's eight cells. They give the operand back: what a step tells is what `tf_stack_effect` and
-- `tf_write` take.
-- Assumes nothing.
use Rattle.code.specs.Decode.{instr}
use Rattle.std.specs.Prelude.{Some, Option, Ok}
use mathlib.Core.Path.{◌≡◌, refl, sym, ap, ◌∙◌}
use mathlib.Core.List.{List}
use Prim.Native.Nat.{ℕ, ◌<◌}
use lib.IntN.{ℤ}
use lib.ListN.{get_or}
use mir.Syntax.{w8, w16}
use Rattle.op.specs.Opcodes.{last_opcode}
use Rattle.op.specs.Shapes.{shape_number, operand_shape}
use Rattle.op.specs.declared.Operand.{Operand}
use Rattle.op.specs.declared.Operand.TheVariants as O
use Rattle.code.specs.Bytes.{signed, unsigned}
use Rattle.code.specs.Decode.{names_in, decode}
use Rattle.code.proofs.Decoding.{decoded}
use Rattle.code.proofs.Ranges.{InRange, decoded_range}
use Rattle.code.proofs.Twos.{unsigned_small, signed_unsigned}
use Rattle.api.specs.Given.{given_of}
use Rattle.api.specs.Steps.{values_of}
use Rattle.api.proofs.Givens.{fits}

-- an operand from its numbers
abbrev pub regiven : Operand → Option Operand
regiven o = given_of (shape_number (operand_shape o)) (values_of o).a (values_of o).b (values_of o).c (names_in o)

-- the numbers of an operand give it back
pub given_back : (o : Operand) → InRange o → regiven o ≡ Some o
unfolding given_of
given_back O.None h = refl
given_back (O.U8 a) h = sym (fits a (Some (O.U8 a)) h)
given_back (O.I8 z) h =
    sym (fits (unsigned 256 z) (Some (O.I8 (signed 256 (unsigned 256 z)))) (unsigned_small w8 256 refl refl z h))
    ∙ ap (λ (x : ℤ). Some (O.I8 x)) (signed_unsigned w8 256 refl refl z h)
given_back (O.U16 a) h = refl
given_back (O.Offset z) h = ap (λ (x : ℤ). Some (O.Offset x)) (signed_unsigned w16 65536 refl refl z h)
given_back (O.U8U8 a b) h = sym (fits b (Some (O.U8U8 a b)) h.1 ∙ fits a _ h.0)
given_back (O.U16U8 a b) h = sym (fits b (Some (O.U16U8 a b)) h.1)
given_back (O.U16U16 a b) h = refl
given_back (O.U16U8U8 a b c) h = sym (fits b (Some (O.U16U8U8 a b c)) h.1)
given_back (O.CallKw positional n) h = sym (fits positional (Some (O.CallKw positional n)) h.0)
given_back (O.CallAttrKw attribute positional n) h = sym (fits positional (Some (O.CallAttrKw attribute positional n)) h.1)
given_back (O.U16U16U8 a b c) h = refl

-- so do those that a step tells
pub step_given : (u : List ℕ) → ((i : ℕ) → get_or u i 0 < 256) → (at k : ℕ) (o : Operand) (z : ℕ)
    → decode last_opcode at u ≡ Ok (Some (instr k o z)) → regiven o ≡ Some o
step_given u bytes at k o z e = given_back o (decoded_range u bytes k o z (decoded _ at u k o z e))
