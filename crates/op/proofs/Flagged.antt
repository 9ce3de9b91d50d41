-- Laws of the assert flags.
-- Assumes nothing.
use lib.ListN.{get_or-eq_default}
use borrow.Author.Tests.{ne_eqb, le-leb, lt-leb}
use native.Mathlib.Omega.{arith}
use Rattle.base.proofs.Numbered.{numbered_one}
use Rattle.op.specs.declared.CmpOperator.{CmpOperator}
use Rattle.op.specs.declared.flags.NoComparison.{NoComparison}
use Rattle.std.specs.Prelude.{Some, None, Option, Result}
use mathlib.Core.Path.{◌≡◌, refl, sym, ap, ◌∙◌}
use Prim.Native.Nat.{ℕ, ◌+◌, ◌-◌, ◌<◌, ◌≤◌}
use Rattle.op.specs.Flags.{comparison_number, comparisons, decoded_flags, flags_of, Compares}
use Rattle.op.specs.declared.CmpOperator.{CmpOperator}
use Rattle.op.specs.declared.CmpOperator.TheVariants.{Eq, NotEq, Lt, LtE, Gt, GtE, Is, IsNot, In, NotIn}

-- what is encoded is decoded again
pub flags_back : (x : Option CmpOperator) → decoded_flags (flags_of x) ≡ Some x
unfolding decoded_flags
flags_back None = refl
flags_back (Some Eq) = refl
flags_back (Some NotEq) = refl
flags_back (Some Lt) = refl
flags_back (Some LtE) = refl
flags_back (Some Gt) = refl
flags_back (Some GtE) = refl
flags_back (Some Is) = refl
flags_back (Some IsNot) = refl
flags_back (Some In) = refl
flags_back (Some NotIn) = refl

-- a comparison's number says which it is
same_comparison : (x y : CmpOperator) → comparison_number x ≡ comparison_number y → x ≡ y
same_comparison x y e =
    let same : Some (Some x) ≡ Some (Some y) =
    sym (flags_back (Some x)) ∙ ap (λ (n : ℕ). decoded_flags (0x10 + n)) e ∙ flags_back (Some y) in
    cc

comparison_low : (x : CmpOperator) → comparison_number x ≤ 9
comparison_low Eq = omega arith
comparison_low NotEq = omega arith
comparison_low Lt = omega arith
comparison_low LtE = omega arith
comparison_low Gt = omega arith
comparison_low GtE = omega arith
comparison_low Is = omega arith
comparison_low IsNot = omega arith
comparison_low In = omega arith
comparison_low NotIn = omega arith

-- a number and its comparison: one answer
pub comparison_one : (n : ℕ) (r s : Result CmpOperator NoComparison) → Compares n r → Compares n s → r ≡ s
comparison_one n r s =
    numbered_one comparison_number (λ (e : NoComparison). e.0) 9 n r s same_comparison
    (λ (d e : NoComparison) (p : d.0 ≡ e.0). ap (λ (k : ℕ). record { 0 = k }) p) comparison_low

-- a byte whose lower half is a comparison's number is that comparison, and one whose lower half is none is invalid
pub decoded_is : (b n : ℕ) (x : CmpOperator) → b ≡ 0x10 + n → comparison_number x ≡ n → Some (Some x) ≡ decoded_flags b
decoded_is b n x e is = rw (e, ← is) (sym (flags_back (Some x)))

pub decoded_not : (b n : ℕ) → b ≡ 0x10 + n → 9 < n → None ≡ decoded_flags b
unfolding decoded_flags
decoded_not b n e h =
    simp (ne_eqb b 0 (λ z. omega (arith, z, e)), le-leb 0x10 b (omega (arith, e)))
    (sym (get_or-eq_default comparisons None {n = b - 0x10} (omega (arith, e, h))))

pub decoded_low : (b : ℕ) → b < 0x10 → (b ≡ 0 → ⊥) → None ≡ decoded_flags b
unfolding decoded_flags
decoded_low b h n = simp (ne_eqb b 0 n, lt-leb 0x10 b h)
