-- Laws of the rules of effects.
-- Assumes nothing.
use Rattle.op.specs.declared.Effect.{Effect}
use Rattle.op.specs.Effects.{by}
use Rattle.std.specs.Prelude.{Ok, Err}
use mathlib.Core.Path.{◌≡◌, refl}
use mathlib.Core.List.{[], ◌∷◌}
use Prim.Native.Nat.{ℕ, ◌+◌, ◌≤◌, ◌<◌}
use native.Mathlib.Omega.{arith}
use lib.Dec.{eqb}
use lib.ListN.{get_or-eq_default}
use Rattle.base.proofs.Bools.{either}
use Rattle.base.specs.Tests.{is_in}
use Rattle.op.specs.Opcodes.{Rule, minus3, minus2, minus1, same, plus1, plus2, minus_n, one_minus_n, one_minus_2n, n_minus_one, both, minus_both, one_minus_both, extended, format, assert, assert_failed, match_keys}
use Rattle.op.specs.Opcodes.{known, Jump, JumpIfTrue, JumpIfFalse, JumpIfTrueOrPop, JumpIfFalseOrPop, ForIter}
use Rattle.op.specs.Effects.{effect_by, taken_of, Small}
use Rattle.op.specs.Inner.{rules, rule_at, rule_number}
use Rattle.op.specs.declared.Refusal.TheVariants.{NotAJump}
use Rattle.base.proofs.Keys.{Rest, up_to, past}

-- past the first 17 stands the last rule
pub last_rule : (e : ℕ) → Rest (up_to 0 17) e → rule_at e ≡ match_keys
last_rule e r =
    let p : 0 + 17 ≤ e = past 0 17 e r (omega arith) in
    get_or-eq_default rules match_keys {n = e} (omega arith)

-- the rule of a rule's number is the rule
pub rule_at_lem : (r : Rule) → rule_at (rule_number r) ≡ r
rule_at_lem minus3 = refl
rule_at_lem minus2 = refl
rule_at_lem minus1 = refl
rule_at_lem same = refl
rule_at_lem plus1 = refl
rule_at_lem plus2 = refl
rule_at_lem minus_n = refl
rule_at_lem one_minus_n = refl
rule_at_lem one_minus_2n = refl
rule_at_lem n_minus_one = refl
rule_at_lem both = refl
rule_at_lem minus_both = refl
rule_at_lem one_minus_both = refl
rule_at_lem extended = refl
rule_at_lem format = refl
rule_at_lem assert = refl
rule_at_lem assert_failed = refl
rule_at_lem match_keys = refl

-- a choice of two small effects is small
-- every rule's effect is small over an operand's numbers
pub rule_small : (r : Rule) (m n : ℕ) → m < 256 → n < 65536 → Small (Ok (effect_by r m n))
unfolding effect_by
rule_small minus3 m n h l = (omega arith, omega arith)
rule_small minus2 m n h l = (omega arith, omega arith)
rule_small minus1 m n h l = (omega arith, omega arith)
rule_small same m n h l = (omega arith, omega arith)
rule_small plus1 m n h l = (omega arith, omega arith)
rule_small plus2 m n h l = (omega arith, omega arith)
rule_small minus_n m n h l = (omega arith, omega arith)
rule_small one_minus_n m n h l = (omega arith, omega arith)
rule_small one_minus_2n m n h l = (omega arith, omega arith)
rule_small n_minus_one m n h l = (omega arith, omega arith)
rule_small both m n h l = (omega arith, omega arith)
rule_small minus_both m n h l = (omega arith, omega arith)
rule_small one_minus_both m n h l = (omega arith, omega arith)
rule_small extended m n h l = (omega arith, omega arith)
rule_small format m n h l = (omega arith, omega arith)
rule_small assert m n h l = (omega arith, omega arith)
rule_small assert_failed m n h l = (omega arith, omega arith)
rule_small match_keys m n h l =
    either (λ (e : Effect). Small (Ok e)) (eqb n 1) (by 0 1) (by 2 0) (omega arith, omega arith) (omega arith, omega arith)

-- and so is a taken jump's
pub taken_small : (k : ℕ) → Small (taken_of k)
unfolding taken_of
taken_small k =
    either Small (known k) _ _
    (either Small (is_in k (Jump ∷ JumpIfTrueOrPop ∷ JumpIfFalseOrPop ∷ [])) (Ok (by 0 0)) _ (omega arith, omega arith)
    (either Small (is_in k (JumpIfTrue ∷ JumpIfFalse ∷ ForIter ∷ [])) (Ok (by 0 1)) (Err NotAJump) (omega arith, omega arith) tt))
    tt
