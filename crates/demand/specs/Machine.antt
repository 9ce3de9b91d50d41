-- The instruction set of the rules (R1 to R19): bytes are those of `code`, shapes, effects and dead-makers those of `op`.
-- Assumes nothing.
use Rattle.op.specs.declared.Refusal.{Refusal}
use Rattle.std.specs.Prelude.{[], ℕ, pos, Ok, Err, Result, None, Option, Some}
use Rattle.op.specs.Depths.{after_of, taken_depth_of}
use Rattle.op.specs.Effects.{dead_maker}
use Rattle.op.specs.declared.Operand.TheVariants as O
use Rattle.code.specs.Encode.{encode}
use Rattle.code.specs.Reading.{Instruction, instruction}
use Rattle.demand.specs.Isa.{Isa}

-- the depth, where it is in range
abbrev pub in_range : Result ℕ Refusal → Option ℕ
in_range (Ok d) = Some d
in_range (Err r) = None

-- a jump's net effect is that of any displacement
abbrev pub isa : Isa
isa = record {
  Plain = Instruction;
  Jump = ℕ;
  Ins = Instruction;
  plain = λ i. i;
  jump = λ k z. instruction k (O.Offset z) [];
  bytes = λ i. encode i.opcode i.operand i.names;
  opcode = λ k. k;
  net = λ i d. in_range (after_of d i.opcode i.operand);
  jnet = λ k d. in_range (after_of d k (O.Offset (pos 0)));
  taken = λ k d. in_range (taken_depth_of d k);
  stops = λ i. dead_maker i.opcode;
  jstops = dead_maker;
}
