-- Laws of `shape_of` and `effect_of`: what a known shape says of the effect; and of the effect without its operand.
-- Assumes nothing.
use Rattle.op.specs.Effects.{by}
use Rattle.op.specs.declared.Effect.{Effect}
use Rattle.std.specs.Prelude.{Ok, Err, Some, None, Result, Option}
use mathlib.Core.Path.{◌≡◌, refl, ◌∙◌, sym, ap, subst}
use mathlib.Core.Bool.{Bool, true, false, cond}
use Prim.Native.Nat.{ℕ, ◌-◌, ◌≤◌, ◌<◌}
use native.Mathlib.Omega.{arith}
use borrow.Author.Tests.{eq-eqb, ne_eqb, le-leb, lt-leb}
use Rattle.base.proofs.Bools.{clash}
use Rattle.op.specs.Opcodes.{Rule, minus3, minus2, minus1, same, plus1, plus2, minus_n, one_minus_n, one_minus_2n}
use Rattle.op.specs.Opcodes.{n_minus_one, both, minus_both, one_minus_both, extended, format, assert, assert_failed}
use Rattle.op.specs.Opcodes.{match_keys}
use Rattle.op.specs.Opcodes.{last_opcode, known, row_of}
use Rattle.op.specs.Shapes.{shape_number, shape_in, shape_of, operand_shape, shape_no}
use Rattle.op.specs.Effects.{rule_in, effect_by, effect_of, effect_from, fixed_by, fixed_of, former_of, last_of}
use Rattle.op.specs.Inner.{rule_number, rule_no, rule_at}
use Rattle.op.specs.declared.Operand.{Operand}
use Rattle.op.specs.declared.Refusal.{Refusal}
use Rattle.op.specs.declared.Refusal.TheVariants.{UnknownOpcode, WrongShape}
use Rattle.op.specs.declared.Shape.{Shape}
use Rattle.op.specs.declared.Shape.TheVariants as S
use Rattle.op.proofs.Rules.{rule_at_lem}

-- an opcode that has a shape is known, and the shape is its row's
pub shape_is : (k : ℕ) (s : Shape) → shape_of k ≡ Ok s → (known k ≡ true) × (shape_in (row_of k) ≡ s)
unfolding shape_of
shape_is k s e = go (known k) refl e
  where
    go : (b : Bool) → known k ≡ b → cond b (Ok (shape_in (row_of k))) (Err UnknownOpcode) ≡ Ok s
        → (known k ≡ true) × (shape_in (row_of k) ≡ s)
    go true q e = (q, cc)
    go false q e = clash cc

-- numbers of shapes are below 12
pub number_small : (s : Shape) → shape_number s < 12
number_small S.None = omega arith
number_small S.U8 = omega arith
number_small S.I8 = omega arith
number_small S.U16 = omega arith
number_small S.Offset = omega arith
number_small S.U8U8 = omega arith
number_small S.U16U8 = omega arith
number_small S.U16U16 = omega arith
number_small S.U16U8U8 = omega arith
number_small S.CallKw = omega arith
number_small S.CallAttrKw = omega arith
number_small S.U16U16U8 = omega arith

-- n, the number of the shape of opcode k
module _ (k n : ℕ) (is : n ≡ shape_no k) where
  pub no_shape : n ≡ 12 → known k ≡ false
  unfolding shape_no
  no_shape e = go (known k) refl (sym is ∙ e)
    where
      go : (b : Bool) → known k ≡ b → cond b (shape_number (shape_in (row_of k))) 12 ≡ 12 → known k ≡ false
      go true q h = absurd (omega (arith, number_small (shape_in (row_of k))))
      go false q h = q

  pub has_shape : (n ≡ 12 → ⊥) → (shape_of k ≡ Ok (shape_in (row_of k))) × (n ≡ shape_number (shape_in (row_of k)))
  unfolding shape_no shape_of
  has_shape d = go (known k) refl is
    where
      go : (b : Bool) → known k ≡ b → n ≡ cond b (shape_number (shape_in (row_of k))) 12
          → (cond b (Ok (shape_in (row_of k))) (Err UnknownOpcode) ≡ Ok (shape_in (row_of k)))
          × (n ≡ shape_number (shape_in (row_of k)))
      go true q h = (refl, h)
      go false q h = absurd (d h)

-- what has no shape is no opcode
pub shape_refused : (k : ℕ) (r : Refusal) → shape_of k ≡ Err r → (known k ≡ false) × (UnknownOpcode ≡ r)
unfolding shape_of
shape_refused k r e = go (known k) refl e
  where
    go : (b : Bool) → known k ≡ b → cond b (Ok (shape_in (row_of k))) (Err UnknownOpcode) ≡ Err r → (known k ≡ false) × (UnknownOpcode ≡ r)
    go true q h = clash cc
    go false q h = (q, cc)

pub effect_refused : (k : ℕ) (o : Operand) (r : Refusal) → shape_of k ≡ Err r → Err r ≡ effect_of k o
unfolding effect_of
effect_refused k o r e = let h = shape_refused k r e in simp h.0 (ap Err (sym h.1))

module _ (k : ℕ) (o : Operand) (s : Shape) (is : shape_of k ≡ Ok s) where
  -- the operand has another shape
  pub effect_other : (shape_number s ≡ shape_number (operand_shape o) → ⊥) → Err WrongShape ≡ effect_of k o
  unfolding effect_of
  effect_other n =
      let q = shape_is k s is in
      simp (q.0, ne_eqb (shape_number (shape_in (row_of k))) (shape_number (operand_shape o)) (λ e. n (ap shape_number (sym q.1) ∙ e)))

  -- the operand has the opcode's shape
  pub effect_fits : shape_number s ≡ shape_number (operand_shape o)
      → Ok (effect_by (rule_in (row_of k)) (former_of o) (last_of o)) ≡ effect_of k o
  unfolding effect_of
  effect_fits e =
      let q = shape_is k s is in
      simp (q.0, eq-eqb (shape_number (shape_in (row_of k))) (shape_number (operand_shape o)) (ap shape_number q.1 ∙ e))

-- the rule by its number, over the operand's numbers
pub effect_by_lem : (k e m n : ℕ) (o : Operand) → e ≡ rule_no k → m ≡ former_of o → n ≡ last_of o
    → effect_by (rule_at e) m n ≡ effect_by (rule_in (row_of k)) (former_of o) (last_of o)
unfolding rule_no
effect_by_lem k e m n o p q r = rw (p, q, r, rule_at_lem (rule_in (row_of k)))

-- without the operand

-- the test of the last opcode
pub known_above : {k : ℕ} → last_opcode < k → known k ≡ false
unfolding known
known_above {k} l = lt-leb k last_opcode l

pub known_below : {k : ℕ} → k ≤ last_opcode → known k ≡ true
unfolding known
known_below {k} l = le-leb k last_opcode l

-- the first six rules stand in the order of their effects, the others go by their operand
by_difference : (r : Rule) → rule_number r ≤ 5 → Ok (Some (by (rule_number r - 3) (3 - rule_number r))) ≡ fixed_by r
unfolding fixed_by
by_difference minus3 h = refl
by_difference minus2 h = refl
by_difference minus1 h = refl
by_difference same h = refl
by_difference plus1 h = refl
by_difference plus2 h = refl
by_difference minus_n h = absurd (omega arith)
by_difference one_minus_n h = absurd (omega arith)
by_difference one_minus_2n h = absurd (omega arith)
by_difference n_minus_one h = absurd (omega arith)
by_difference both h = absurd (omega arith)
by_difference minus_both h = absurd (omega arith)
by_difference one_minus_both h = absurd (omega arith)
by_difference extended h = absurd (omega arith)
by_difference format h = absurd (omega arith)
by_difference assert h = absurd (omega arith)
by_difference assert_failed h = absurd (omega arith)
by_difference match_keys h = absurd (omega arith)

by_operand : (r : Rule) → 5 < rule_number r → Ok None ≡ fixed_by r
unfolding fixed_by
by_operand minus3 h = absurd (omega arith)
by_operand minus2 h = absurd (omega arith)
by_operand minus1 h = absurd (omega arith)
by_operand same h = absurd (omega arith)
by_operand plus1 h = absurd (omega arith)
by_operand plus2 h = absurd (omega arith)
by_operand minus_n h = refl
by_operand one_minus_n h = refl
by_operand one_minus_2n h = refl
by_operand n_minus_one h = refl
by_operand both h = refl
by_operand minus_both h = refl
by_operand one_minus_both h = refl
by_operand extended h = refl
by_operand format h = refl
by_operand assert h = refl
by_operand assert_failed h = refl
by_operand match_keys h = refl

module _ (k : ℕ) where
  pub fixed_unknown : known k ≡ false → Err UnknownOpcode ≡ fixed_of k
  unfolding fixed_of
  fixed_unknown e = simp e

  pub from_unknown : (m n : ℕ) → known k ≡ false → Err UnknownOpcode ≡ effect_from k m n
  unfolding effect_from
  from_unknown m n e = simp e

  -- the number e, answered for the rule of opcode k
  module _ (is : known k ≡ true) (e : ℕ) (p : e ≡ rule_no k) where
    pub fixed_first : (up down : ℕ) → e ≤ 5 → up ≡ e - 3 → down ≡ 3 - e → Ok (Some (by up down)) ≡ fixed_of k
    unfolding fixed_of rule_no
    fixed_first up down h eu ed = simp is (rw (eu, ed, p) (by_difference (rule_in (row_of k)) (omega (arith, p))))

    pub fixed_rest : 5 < e → Ok None ≡ fixed_of k
    unfolding fixed_of rule_no
    fixed_rest h = simp is (by_operand (rule_in (row_of k)) (omega (arith, p)))

    pub from_rule : (m n : ℕ) → Ok (effect_by (rule_at e) m n) ≡ effect_from k m n
    unfolding effect_from rule_no
    from_rule m n = simp is (rw (p, rule_at_lem (rule_in (row_of k))))

-- an effect is what an opcode does whatever its operand, or the opcode goes by its operand
abbrev Agrees : Result (Option Effect) Refusal → Result Effect Refusal → Type 0
Agrees (Ok (Some effect)) e = e ≡ Ok (by effect.up effect.down)
Agrees (Ok None) e = Unit {0}
Agrees (Err r) e = e ≡ Err r

rule_agrees : (r : Rule) (m n : ℕ) → Agrees (fixed_by r) (Ok (effect_by r m n))
unfolding fixed_by effect_by
rule_agrees minus3 m n = refl
rule_agrees minus2 m n = refl
rule_agrees minus1 m n = refl
rule_agrees same m n = refl
rule_agrees plus1 m n = refl
rule_agrees plus2 m n = refl
rule_agrees minus_n m n = tt
rule_agrees one_minus_n m n = tt
rule_agrees one_minus_2n m n = tt
rule_agrees n_minus_one m n = tt
rule_agrees both m n = tt
rule_agrees minus_both m n = tt
rule_agrees one_minus_both m n = tt
rule_agrees extended m n = tt
rule_agrees format m n = tt
rule_agrees assert m n = tt
rule_agrees assert_failed m n = tt
rule_agrees match_keys m n = tt

agrees : (k m n : ℕ) → Agrees (fixed_of k) (effect_from k m n)
unfolding fixed_of effect_from
agrees k m n = go (known k)
  where
    go : (b : Bool) → Agrees (cond b (fixed_by (rule_in (row_of k))) (Err UnknownOpcode))
        (cond b (Ok (effect_by (rule_in (row_of k)) m n)) (Err UnknownOpcode))
    go true = rule_agrees (rule_in (row_of k)) m n
    go false = refl

-- a fixed effect is the effect with any numbers, and so is a refusal
pub fixed_effect : (k u d m n : ℕ) → fixed_of k ≡ Ok (Some (by u d)) → effect_from k m n ≡ Ok (by u d)
fixed_effect k u d m n e = subst (λ (f : Result (Option Effect) Refusal). Agrees f (effect_from k m n)) e (agrees k m n)

pub fixed_refused : (k : ℕ) (r : Refusal) (m n : ℕ) → fixed_of k ≡ Err r → effect_from k m n ≡ Err r
fixed_refused k r m n e = subst (λ (f : Result (Option Effect) Refusal). Agrees f (effect_from k m n)) e (agrees k m n)

-- the effect of an opcode with an operand of its shape is that of the operand's two numbers
pub effect_from_lem : (k : ℕ) (o : Operand) (s : Shape) → shape_of k ≡ Ok s → shape_number s ≡ shape_number (operand_shape o)
    → effect_of k o ≡ effect_from k (former_of o) (last_of o)
unfolding effect_from
effect_from_lem k o s is e = simp (shape_is k s is).0 (sym (effect_fits k o s is e))
