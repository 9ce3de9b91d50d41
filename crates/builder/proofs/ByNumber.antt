-- Each number of `emit_numbered` is the call that it stands for.
-- Assumes nothing.
use Rattle.base.proofs.Bools.{clash}
use mathlib.Core.Bool.{Bool, true, false, cond}
use Rattle.builder.specs.declared.numbered.Instruction.{Instruction}
use Rattle.std.specs.Prelude.{Err, Some, None, Option}
use mathlib.Core.Path.{◌≡◌, refl, sym}
use mathlib.Core.List.{List}
use Prim.Native.Nat.{ℕ, ◌%◌, ◌≤◌, ◌<◌}
use lib.ListN.{get_or-eq_default, length}
use borrow.Author.Tests.{lt-ltb, le-ltb}
use Rattle.op.specs.declared.Operand.{Operand}
use Rattle.op.specs.declared.Refusal.TheVariants.{WrongShape}
use Rattle.builder.specs.declared.Builder.{Builder}
use Rattle.builder.specs.ByNumber.{NumbersAreCalls}
use Rattle.builder.specs.Emission.{Outcome, emit_named, outcome}
use Rattle.builder.specs.Numbered.{below, instruction_of, instructions, numbered_of}

-- a number that fits its field, and one that doesn't

pub fits : (m x : ℕ) (i : Option Instruction) → x < m → i ≡ below m x i
fits m x i h = simp (lt-ltb x m h)

pub wide : (m x : ℕ) (i : Option Instruction) → m ≤ x → None ≡ below m x i
wide m x i h = simp (le-ltb x m h)

-- a call past the last
pub no_call : (call k a b c names : ℕ) → 17 ≤ call → None ≡ instruction_of call k a b c names
unfolding instruction_of
no_call call k a b c names h = sym (get_or-eq_default (instructions k a b c names) None {n = call} h)

-- what `emit_numbered` comes to, once the instruction is known

module _ (builder : Builder) (call k a b c n : ℕ) (names code locations : List ℕ) (i : Option Instruction)
    (is : i ≡ instruction_of call k a b c n) (counted : n ≡ length names % 256) where
  pub numbered_none : i ≡ None
      → outcome (Err WrongShape) code locations ≡ numbered_of builder call k a b c names code locations
  unfolding numbered_of
  numbered_none e = rw (← counted, ← is, e) refl

  pub numbered_goes : (opcode name : ℕ) (operand : Operand) (x : Outcome) → i ≡ Some (record { opcode = opcode; name = name; operand = operand })
      → x ≡ emit_named builder opcode name operand names code locations
      → x ≡ numbered_of builder call k a b c names code locations
  unfolding numbered_of
  numbered_goes opcode name operand x e goes = rw (← counted, ← is, e) goes

pub numbers_are_calls : NumbersAreCalls
unfolding numbered_of instruction_of
numbers_are_calls g = record {
  emit = refl;
  emit_u8 = λ h. simp (lt-ltb g.a 256 h);
  emit_i8 = λ h. simp (lt-ltb g.a 256 h);
  emit_u8_u8 = λ h i. simp (lt-ltb g.a 256 h, lt-ltb g.b 256 i);
  emit_u16 = refl;
  emit_u16_u16 = λ h. simp (lt-ltb g.b 65536 h);
  emit_u16_u8 = λ h. simp (lt-ltb g.b 256 h);
  emit_u16_u8_u8 = λ h. simp (lt-ltb g.b 256 h);
  emit_call_builtin_function = λ h i. simp (lt-ltb g.a 256 h, lt-ltb g.b 256 i);
  emit_call_builtin_type = λ h i. simp (lt-ltb g.a 256 h, lt-ltb g.b 256 i);
  emit_call_function_kw = λ h. simp (lt-ltb g.a 256 h);
  emit_call_attr_kw = λ h. simp (lt-ltb g.b 256 h);
  emit_raise_unbound_local = refl;
  emit_load_global_callable = refl;
  emit_name_op = refl;
  emit_load_local = refl;
  emit_store_local = refl;
}

-- what is no byte gives no instruction, and what is one is the number
pub no_byte : {A : Type 0} (t : Bool) (n : ℕ) (x : Option A) → None ≡ cond t (Some n) None → None ≡ cond t x None
no_byte true n x e = clash cc
no_byte false n x e = refl

pub is_byte : (t : Bool) (m n : ℕ) → Some m ≡ cond t (Some n) None → (t ≡ true) × (m ≡ n)
is_byte true m n e = (refl, cc)
is_byte false m n e = (cc, cc)
