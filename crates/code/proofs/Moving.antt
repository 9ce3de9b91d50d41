-- Laws of `flow_of`: a law for each case of the code, and what callers need of an instruction that flows on.
-- Assumes nothing.
use Rattle.code.specs.Decode.{instr}
use Rattle.code.specs.Decode.{Step}
use Rattle.op.specs.Effects.{by}
use Rattle.op.specs.declared.Effect.{Effect}
use Rattle.std.specs.Prelude.{Ok, Err, Some, None, Result}
use mathlib.Core.Path.{◌≡◌, refl, sym, ap, ◌∙◌}
use mathlib.Core.Bool.{Bool, true, false, cond, not}
use mathlib.Core.List.{List}
use Prim.Native.Nat.{ℕ, suc, ◌+◌, ◌-◌, ◌<◌, ◌≤◌}
use native.Mathlib.Omega.{arith}
use lib.Dec.{T, ltb, leb, eqb}
use lib.IntN.{ℤ, pos, negsuc, sub_ℕ}
use lib.ListN.{length, drop, length-drop}
use lib.Signed.{mag}
use borrow.Author.Tests.{le-leb, lt-leb, ltb-true, ltb-false, eq-eqb, ne_eqb}
use Rattle.base.proofs.Bools.{clash}
use Rattle.op.specs.Opcodes.{Rule, minus3, minus2, minus1, same, plus1, plus2, minus_n, one_minus_n, one_minus_2n}
use Rattle.op.specs.Opcodes.{n_minus_one, both, minus_both, one_minus_both, extended, format, assert, assert_failed}
use Rattle.op.specs.Opcodes.{match_keys, table, known, row_of}
use Rattle.op.specs.Shapes.{shape_number, shape_in, shape_of, operand_shape, size_of}
use Rattle.op.specs.Effects.{rule_in, former_of, last_of, effect_by, effect_of, effect_from, fixed_of, taken_of}
use Rattle.op.specs.declared.Operand.{Operand}
use Rattle.op.specs.declared.Operand.TheVariants as O
use Rattle.op.specs.declared.Refusal.{Refusal}
use Rattle.op.specs.declared.Shape.{Shape}
use Rattle.op.specs.declared.Shape.TheVariants as S
use Rattle.op.proofs.Effected.{shape_is, effect_fits, effect_from_lem, fixed_effect, fixed_refused}
use Rattle.base.proofs.Keys.{in_range}
use Rattle.op.proofs.Listed.{known_row}
use Rattle.code.specs.declared.Flow.{Flow}
use Rattle.code.specs.declared.Goal.TheVariants.{Nowhere, To, Outside}
use Rattle.code.specs.Bytes.{word_at, signed, unsigned}
use Rattle.code.specs.Decode.{operand_in, names_in, decode}
use Rattle.code.specs.Flow.{goal_by, goal_of, change_of, flow_by, flowing_by, flow_of}
use Rattle.code.proofs.Operands.{shape_in_lem}
use Rattle.code.proofs.Decoding.{decoded, decoded_ends}

-- goals, by the word that stands for the displacement

module _ (next end : ℕ) where
  forth : (z : ℤ) → mag z < 32768 → unsigned 65536 z < 32768
      → cond (leb (next + unsigned 65536 z) end) (To (next + unsigned 65536 z)) Outside ≡ goal_by next end z
  unfolding goal_by
  forth (pos n) h l = refl
  forth (negsuc n) h l = absurd (omega arith)

  back : (z : ℤ) → mag z < 32768 → 32768 ≤ unsigned 65536 z
      → cond (leb (65536 - unsigned 65536 z) next) (To (next - (65536 - unsigned 65536 z))) Outside ≡ goal_by next end z
  unfolding goal_by
  back (pos n) h l = absurd (omega arith)
  back (negsuc n) h l = let e : 65536 - (65536 - suc n) ≡ suc n = omega arith in rw e

  module _ (z : ℤ) (h : mag z < 32768) (w : ℕ) (ew : w ≡ unsigned 65536 z) (in_code : next ≤ end) where
    pub goal_forth : w < 32768 → w ≤ end - next → To (next + w) ≡ goal_by next end z
    goal_forth l r = rw (le-leb (next + unsigned 65536 z) end (omega (arith, ew)), ← ew) at
        (forth z h (omega (arith, ew)))

    pub goal_over : w < 32768 → end - next < w → Outside ≡ goal_by next end z
    goal_over l r = rw (lt-leb (next + unsigned 65536 z) end (omega (arith, ew))) at (forth z h (omega (arith, ew)))

    pub goal_back : 32768 ≤ w → 65536 - w ≤ next → To (next - (65536 - w)) ≡ goal_by next end z
    goal_back l r = rw (le-leb (65536 - unsigned 65536 z) next (omega (arith, ew)), ← ew) at
        (back z h (omega (arith, ew)))

    pub goal_under : 32768 ≤ w → next < 65536 - w → Outside ≡ goal_by next end z
    goal_under l r = rw (lt-leb (65536 - unsigned 65536 z) next (omega (arith, ew))) at (back z h (omega (arith, ew)))

  -- a displacement that is target - next leads to the target
  target_by : (t : ℕ) → t ≤ end → (b : Bool) → ltb t next ≡ b → goal_by next end (sub_ℕ t next) ≡ To t
  unfolding goal_by
  target_by t h true e =
      let l : t < next = ltb-true t next e in
      let q : next - suc (next - suc t) ≡ t = omega arith in
      rw (e, le-leb (suc (next - suc t)) next (omega arith), q)
  target_by t h false e =
      let l : next ≤ t = ltb-false t next e in
      let q : next + (t - next) ≡ t = omega arith in
      rw (e, q, le-leb t end h)

  pub goal_target : (t : ℕ) → t ≤ end → goal_by next end (sub_ℕ t next) ≡ To t
  goal_target t h = target_by t h (ltb t next) refl

-- goals, by the shape's number

goal_by_shape : (next end : ℕ) (x : Shape) (u : List ℕ)
    → goal_of next end (operand_in x u) ≡ cond (eqb (shape_number x) 4) (goal_by next end (signed 65536 (word_at u 1))) Nowhere
unfolding operand_in
goal_by_shape next end S.None u = refl
goal_by_shape next end S.U8 u = refl
goal_by_shape next end S.I8 u = refl
goal_by_shape next end S.U16 u = refl
goal_by_shape next end S.Offset u = refl
goal_by_shape next end S.U8U8 u = refl
goal_by_shape next end S.U16U8 u = refl
goal_by_shape next end S.U16U16 u = refl
goal_by_shape next end S.U16U8U8 u = refl
goal_by_shape next end S.CallKw u = refl
goal_by_shape next end S.CallAttrKw u = refl
goal_by_shape next end S.U16U16U8 u = refl

module _ (next end : ℕ) (x : Shape) (u : List ℕ) (n : ℕ) (is : n ≡ shape_number x) where
  pub goal_jump : n ≡ 4 → goal_by next end (signed 65536 (word_at u 1)) ≡ goal_of next end (operand_in x u)
  goal_jump e = sym (goal_by_shape next end x u ∙ rw (eq-eqb (shape_number x) 4 (sym is ∙ e)) refl)

  pub goal_none : (n ≡ 4 → ⊥) → Nowhere ≡ goal_of next end (operand_in x u)
  goal_none d = sym (goal_by_shape next end x u ∙ rw (ne_eqb (shape_number x) 4 (λ z. d (is ∙ z))) refl)

-- nets, without the operand

module _ (k : ℕ) (x : Shape) (u : List ℕ) (e : shape_of k ≡ Ok x) where
  by_two : effect_of k (operand_in x u) ≡ effect_from k (former_of (operand_in x u)) (last_of (operand_in x u))
  by_two = effect_from_lem k (operand_in x u) x e (ap shape_number (sym (shape_in_lem x u)))

  pub net_fixed : (up down : ℕ) → fixed_of k ≡ Ok (Some (by up down))
      → record { up = up; down = down } ≡ change_of (effect_of k (operand_in x u))
  net_fixed up down f = sym (ap change_of (by_two ∙ fixed_effect k up down _ _ f))

  pub net_refused : (r : Refusal) → fixed_of k ≡ Err r
      → record { up = 0; down = 0 } ≡ change_of (effect_of k (operand_in x u))
  net_refused r f = sym (ap change_of (by_two ∙ fixed_refused k r _ _ f))

  pub net_numbers : (m n : ℕ) → m ≡ former_of (operand_in x u) → n ≡ last_of (operand_in x u)
      → effect_from k m n ≡ effect_of k (operand_in x u)
  net_numbers m n p q = rw (p, q) (sym by_two)

-- flows

-- a jump has 3 bytes
goal_next : (at z end : ℕ) (o : Operand) → z ≡ size_of (operand_shape o) (names_in o)
    → goal_of (at + z) end o ≡ goal_of (at + 3) end o
unfolding size_of
goal_next at z end O.None e = refl
goal_next at z end (O.U8 a) e = refl
goal_next at z end (O.I8 d) e = refl
goal_next at z end (O.U16 a) e = refl
goal_next at z end (O.Offset d) e = ap (λ (x : ℕ). goal_by (at + x) end d) e
goal_next at z end (O.U8U8 a b) e = refl
goal_next at z end (O.U16U8 a b) e = refl
goal_next at z end (O.U16U16 a b) e = refl
goal_next at z end (O.U16U8U8 a b c) e = refl
goal_next at z end (O.CallKw positional names) e = refl
goal_next at z end (O.CallAttrKw attribute positional names) e = refl
goal_next at z end (O.U16U16U8 a b c) e = refl

module _ (last at : ℕ) (s : List ℕ) where
  pub flow_op : (k : ℕ) (o : Operand) (z : ℕ) → decode last at (drop at s) ≡ Ok (Some (instr k o z))
      → Ok (Some (flow_by (at + z) (length s) k o z)) ≡ flow_of last at (drop at s)
  unfolding flow_of
  flow_op k o z e =
      let d = decoded last at (drop at s) k o z e in
      let l : at + length (drop at s) ≡ length s = omega (arith, length-drop at s, d.some, d.fits) in
      rw (e, l, goal_next at z (length s) o d.size)

  pub flow_end : decode last at (drop at s) ≡ (Ok None) → Ok None ≡ flow_of last at (drop at s)
  unfolding flow_of
  flow_end e = rw e

  pub flow_refused : (r : Refusal) → decode last at (drop at s) ≡ Err r → Err r ≡ flow_of last at (drop at s)
  unfolding flow_of
  flow_refused r e = rw e

-- what callers need

-- the instruction behind a flow, and where it stands
pub record Flowed (last at : ℕ) (s : List ℕ) (f : Flow) : Type 0 where
  pub opcode : ℕ
  pub operand : Operand
  pub step : decode last at (drop at s) ≡ Ok (Some (instr opcode operand f.size))
  pub flow : f ≡ flow_by (at + 3) (length s) opcode operand f.size
  pub some : 0 < f.size
  pub ends : at + f.size ≤ length s

flowed_by : (last at : ℕ) (s : List ℕ) (f : Flow) (x : Step) → decode last at (drop at s) ≡ x
    → flowing_by at (at + length (drop at s)) x ≡ Ok (Some f) → Flowed last at s f
flowed_by last at s f (Ok None) ex e = clash cc
flowed_by last at s f (Err r) ex e = clash cc
flowed_by last at s f (Ok (Some i)) ex e =
    let d = decoded last at (drop at s) i.opcode i.operand i.size ex in
    let l : at + length (drop at s) ≡ length s = omega (arith, length-drop at s, d.some, d.fits) in
    let q : flow_by (at + 3) (at + length (drop at s)) i.opcode i.operand i.size ≡ f = cc in
    let ef : f ≡ flow_by (at + 3) (length s) i.opcode i.operand i.size = rw l at (sym q) in
    let ez : i.size ≡ f.size = sym (ap (λ (g : Flow). g.size) ef) in
    let b = decoded_ends last at s i.opcode i.operand i.size ex in
    record {
      opcode = i.opcode;
      operand = i.operand;
      step = rw ez at ex;
      flow = rw ez at ef;
      some = omega (arith, b.0, ez);
      ends = omega (arith, b.1, ez);
    }

pub flowed : (last at : ℕ) (s : List ℕ) (f : Flow) → flow_of last at (drop at s) ≡ Ok (Some f) → Flowed last at s f
unfolding flow_of
flowed last at s f e = flowed_by last at s f (decode last at (drop at s)) refl e

-- an effect's change is the effect, where it is not refused
abbrev pub of_change : Effect → Result Effect Refusal
of_change c = Ok (by c.up c.down)

abbrev pub is_by : Result Effect Refusal → Bool
is_by (Ok effect) = true
is_by (Err r) = false

pub change_is : (e : Result Effect Refusal) → is_by e ≡ true → of_change (change_of e) ≡ e
change_is (Ok effect) h = refl
change_is (Err r) h = cc

module _ (k : ℕ) (o : Operand) (e : shape_of k ≡ Ok (operand_shape o)) where
  -- what decodes or is written has an effect
  pub net_is : of_change (change_of (effect_of k o)) ≡ effect_of k o
  net_is =
      let f = effect_fits k o (operand_shape o) e refl in
      change_is (effect_of k o) (ap is_by (sym f))

-- the opcodes of the shape Offset are those that jump
agree : Bool → Bool → Bool
agree true b = b
agree false b = not b

agreed : (a b : Bool) → T (agree a b) → a ≡ b
unfolding agree
agreed true true t = refl
agreed true false t = absurd t
agreed false true t = absurd t
agreed false false t = refl

jump_row : (k : ℕ) → k < length table → eqb (shape_number (shape_in (row_of k))) 4 ≡ is_by (taken_of k)
unfolding row_of table taken_of known agree
jump_row k h = agreed _ _ (in_range (λ (i : ℕ). agree (eqb (shape_number (shape_in (row_of i))) 4) (is_by (taken_of i))) 0
    (length table) k (omega arith) (omega arith) tt)

pub jumps_by_shape : (k : ℕ) (s : Shape) → shape_of k ≡ Ok s → is_by (taken_of k) ≡ eqb (shape_number s) 4
jumps_by_shape k s e =
    let q = shape_is k s e in
    rw (← q.1) (sym (jump_row k ((known_row k).0 q.0)))
