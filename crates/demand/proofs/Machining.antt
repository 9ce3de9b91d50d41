-- The laws of the rules' instruction set, from the laws of `op` and `code`.
-- Assumes nothing.
use Rattle.op.specs.declared.Effect.{Effect}
use Rattle.std.specs.Prelude.{Ok, Err, Result, Some}
use mathlib.Core.Path.{◌≡◌, refl}
use mathlib.Core.Bool.{Bool, true, false, cond}
use mathlib.Core.List.{List, [], ◌∷◌, ◌++◌}
use Prim.Native.Nat.{ℕ, ◌+◌, ◌-◌, ◌/◌, ◌%◌, ◌≤◌, ◌<◌}
use native.Mathlib.Omega.{arith}
use lib.Dec.{leb}
use lib.IntN.{ℤ, pos, sub_ℕ}
use lib.ListN.{length}
use lib.Signed.{mag}
use mir.Syntax.{w16}
use borrow.Author.Tests.{leb-true}
use Rattle.base.proofs.Bools.{clash}
use Rattle.op.specs.Depths.{deepest, landing, after_of, taken_depth_of, low_falling, low_taken}
use Rattle.op.specs.Opcodes.{last_opcode}
use Rattle.op.specs.Shapes.{shape_of, operand_shape}
use Rattle.op.specs.Effects.{effect_of, taken_of}
use Rattle.op.specs.declared.Operand.{Operand}
use Rattle.op.specs.declared.Operand.TheVariants as O
use Rattle.op.specs.declared.Refusal.{Refusal}
use Rattle.op.specs.declared.Shape.TheVariants as S
use Rattle.code.specs.Bytes.{unsigned}
use Rattle.code.specs.Depths.{Leads}
use Rattle.code.specs.Encode.{encode, Formed}
use Rattle.code.specs.Flow.{goal_of, change_of}
use Rattle.code.specs.Reading.{Instruction, before, instructions_from}
use Rattle.code.specs.declared.Goal.TheVariants.{Nowhere}
use Rattle.code.proofs.Decoding.{shape_known}
use Rattle.code.proofs.Inverse.{reads_encoded}
use Rattle.code.proofs.Twos.{signed_small, unsigned_signed}
use Rattle.code.specs.Tables.{jump_size}
use Rattle.builder.specs.Marks.{near, bits}
use Rattle.builder.proofs.Plans.{after_shape}
use Rattle.builder.proofs.Displacing.{displaced, bits_small}
use Rattle.demand.specs.Machine.{in_range, isa}
use Rattle.demand.proofs.Laws.{Laws}

-- depths

module _ (low : Refusal) (d e : ℕ) where
  by_tests : (s t : Bool) (x : ℕ) (p q : Refusal) → leb x deepest ≡ t
      → cond s (cond t (Ok x) (Err p)) (Err q) ≡ Ok e → e ≤ 65535
  by_tests true true x p q h k = let z : x ≡ e = cc in omega (arith, leb-true x deepest h)
  by_tests true false x p q h k = clash cc
  by_tests false t x p q h k = clash cc

  pub landing_small : (x : Result Effect Refusal) → landing low d x ≡ Ok e → e ≤ 65535
  unfolding landing
  landing_small (Ok effect) h =
      let after : ℕ = d + effect.up - effect.down in
      by_tests (leb effect.down (d + effect.up)) (leb after deepest) after _ _ refl h
  landing_small (Err r) h = clash cc

  -- the depth does not hang on the refusal that is given below 0
  any_low : (s t : Bool) (x : ℕ) (p q q' : Refusal)
      → cond s (cond t (Ok x) (Err p)) (Err q) ≡ Ok e
      → cond s (cond t (Ok x) (Err p)) (Err q') ≡ Ok e
  any_low true t x p q q' h = h
  any_low false t x p q q' h = clash cc

  -- an effect that lands leads there as a change
  pub leads_of : (x : Result Effect Refusal) → landing low d x ≡ Ok e → Leads d (change_of x) e
  unfolding landing
  leads_of (Ok effect) h =
      let after : ℕ = d + effect.up - effect.down in
      any_low (leb effect.down (d + effect.up)) (leb after deepest) after _ _ _ h
  leads_of (Err r) h = clash cc

pub depth_is : (x : Result ℕ Refusal) (e : ℕ) → in_range x ≡ Some e → x ≡ Ok e
depth_is (Ok d) e h = cc
depth_is (Err r) e h = clash cc

pub after_small : (d k : ℕ) (o : Operand) (e : ℕ) → in_range (after_of d k o) ≡ Some e → e ≤ 65535
after_small d k o e h = landing_small low_falling d e (effect_of k o) (depth_is (after_of d k o) e h)

-- a jump's net effect is the same at every displacement
pub jump_net : (d k : ℕ) (z y : ℤ) → after_of d k (O.Offset z) ≡ after_of d k (O.Offset y)
unfolding effect_of
jump_net d k z y = refl

-- instructions that can be written

-- no jump
abbrev pub Still : Operand → Type 0
Still o = (next end : ℕ) → goal_of next end o ≡ Nowhere

pub record Valid (i : Instruction) : Type 0 where
  pub formed : Formed i.opcode i.operand i.names
  pub still : Still i.operand

abbrev pub Jumps : ℕ → Type 0
Jumps k = shape_of k ≡ Ok S.Offset

-- the port's own table has the opcode of all that is well formed
pub formed_known : {k : ℕ} {o : Operand} {ns : List ℕ} → Formed k o ns → k ≤ last_opcode
formed_known {k} {o} f = shape_known k (operand_shape o) f.shape

pub read_formed : (at : ℕ) (i : Instruction) → Formed i.opcode i.operand i.names → (r : List ℕ)
    → instructions_from last_opcode at (isa.bytes i ++ r)
    ≡ before (record { offset = at; what = i; size = length (isa.bytes i) })
    (instructions_from last_opcode (at + length (isa.bytes i)) r)
read_formed at i f r = reads_encoded last_opcode at i r (formed_known f) f

-- a jump's displacement

module _ (o t : ℕ) (c : near o t ≡ true) where
  pub offset_small : mag (sub_ℕ t (o + jump_size)) < 32768
  offset_small = rw (← displaced o t c) (signed_small w16 65536 refl refl (bits o t) (bits_small o t c))

  pub offset_bits : unsigned 65536 (sub_ℕ t (o + jump_size)) ≡ bits o t
  offset_bits = rw (← displaced o t c) (unsigned_signed w16 65536 refl refl (bits o t) (bits_small o t c))

  pub jump_bytes : (k : ℕ) → encode k (O.Offset (sub_ℕ t (o + jump_size))) [] ≡ k ∷ bits o t % 256 ∷ bits o t / 256 ∷ []
  unfolding encode
  jump_bytes k = rw offset_bits

  pub jump_formed : (k : ℕ) → Jumps k → Formed k (O.Offset (sub_ℕ t (o + jump_size))) []
  jump_formed k s = record { shape = s; signs = offset_small; count = refl }

pub encode_some : (k : ℕ) (o : Operand) (ns : List ℕ) → 0 < length (encode k o ns)
unfolding encode
encode_some k o ns = omega arith

abbrev pub laws : Laws isa
laws = record {
  valid = Valid;
  jumps = Jumps;
  some_byte = λ i. encode_some i.opcode i.operand i.names;
  net_small = λ i d e h. after_small d i.opcode i.operand e h;
  jnet_small = λ k d e h. after_small d k (O.Offset (pos 0)) e h;
  taken_small = λ k d e h. landing_small low_taken d e (taken_of k) (depth_is (taken_depth_of d k) e h);
  jnet_jumps = λ k d e h. after_shape d k (O.Offset (pos 0)) e (depth_is (after_of d k (O.Offset (pos 0))) e h);
}
