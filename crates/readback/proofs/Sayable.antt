-- What the numbers of every operand have in common, and numbers in 16 bits.
-- Assumes nothing.
use Rattle.readback.specs.declared.numbers.Small.TheVariants as Z
use Rattle.words.specs.declared.NumberError.TheVariants.{Large}
use Rattle.std.specs.Prelude.{Ok, Err, Some, None, Option}
use mathlib.Core.Path.{◌≡◌, refl, sym, ◌∙◌, subst}
use mathlib.Core.Bool.{Bool, true, false, cond}
use mathlib.Core.List.{List, [], ◌∷◌}
use Prim.Native.Nat.{ℕ, suc, ◌-◌, ◌≤◌, ◌<◌}
use native.Mathlib.Decide.{dec_lt}
use native.Mathlib.Omega.{arith}
use lib.Dec.{leb, ltb}
use lib.IntN.{ℤ, pos, negsuc}
use lib.ListN.{length, drop}
use lib.Signed.{mag}
use borrow.Author.Tests.{lt-ltb, le-ltb, ne_eqb, le-leb, lt-leb}
use Rattle.op.specs.declared.Operand.{Operand}
use Rattle.op.specs.declared.Operand.TheVariants as O
use Rattle.op.specs.declared.Shape.{Shape}
use Rattle.code.specs.Decode.{names_in}
use Rattle.code.proofs.Ranges.{InRange}
use Rattle.text.specs.Row.{wholes, operands_of}
use Rattle.words.specs.Numbers.{fitted, plus_of, minus_of, whole_of}
use Rattle.readback.specs.Operands.{Said, operand_for}
use Rattle.readback.specs.Inner.{small_of, narrow_of}
use Rattle.readback.proofs.Saying.{Words, said_only}
use Rattle.readback.proofs.Speaking.{length_wholes}

-- a number in 64 bits, in 16

far_plus : (n : ℕ) → 65535 < n → (b : Bool) → narrow_of (plus_of (cond b (Ok n) (Err Large))) ≡ None
unfolding narrow_of plus_of
far_plus n h true = rw (lt-leb n 65535 h)
far_plus n h false = refl

far_minus : (n : ℕ) → 65535 < n → (b : Bool) → narrow_of (minus_of (cond b (Ok (suc n)) (Err Large))) ≡ None
unfolding narrow_of minus_of
far_minus n h true = rw (ne_eqb (suc n) 0 (λ e. omega arith), lt-leb (suc n) 65536 (omega arith))
far_minus n h false = refl

near_plus : (n : ℕ) → n ≤ 65535 → narrow_of (plus_of (fitted n)) ≡ Some (Z.Plus n)
unfolding narrow_of plus_of fitted
near_plus n h = rw (le-leb n 18446744073709551615 (omega arith), le-leb n 65535 h)

near_minus : (n : ℕ) → n ≤ 65535 → narrow_of (minus_of (fitted (suc n))) ≡ Some (Z.Minus n)
unfolding narrow_of minus_of fitted
near_minus n h =
    let e : suc n - 1 ≡ n = omega arith in
    rw (
      le-leb (suc n) 18446744073709551615 (omega arith),
      ne_eqb (suc n) 0 (λ e. omega arith),
      le-leb (suc n) 65536 (omega arith),
      ne_eqb (suc n) 0 (λ e. omega arith),
      e,
    )

pub narrow_is : (z : Option ℤ) → narrow_of (whole_of z) ≡ small_of z
unfolding whole_of small_of narrow_of fitted
narrow_is None = refl
narrow_is (Some (pos n)) = by (dec_lt 65535 n)
  where
    by : Dec (65535 < n) → narrow_of (plus_of (fitted n)) ≡ cond (ltb n 65536) (Some (Z.Plus n)) None
    by (yes h) = far_plus n h (leb n 18446744073709551615) ∙ rw (le-ltb n 65536 h)
    by (no h) = near_plus n (omega arith) ∙ rw (lt-ltb n 65536 (omega arith))
narrow_is (Some (negsuc n)) = by (dec_lt 65535 n)
  where
    by : Dec (65535 < n) → narrow_of (minus_of (fitted (suc n))) ≡ cond (ltb n 65536) (Some (Z.Minus n)) None
    by (yes h) = far_minus n h (leb (suc n) 18446744073709551615) ∙ rw (le-ltb n 65536 h)
    by (no h) = near_minus n (omega arith) ∙ rw (lt-ltb n 65536 (omega arith))

-- columns that a shape has

abbrev pub AllPlain : List ℤ → Type 0
AllPlain [] = Unit {0}
AllPlain (pos n ∷ zs) = (n < 65536) × AllPlain zs
AllPlain (negsuc n ∷ zs) = ⊥

abbrev pub FirstNear : List ℤ → Type 0
FirstNear [] = Unit {0}
FirstNear (z ∷ zs) = mag z < 65536

-- what the numbers of every operand have in common
pub record Sayable (zs : List ℤ) : Type 0 where
  pub size : length zs ≤ 258
  pub near : FirstNear zs
  pub plain : AllPlain (drop 1 zs)

plain_wholes : (ns : List ℕ) → Words ns → AllPlain (wholes ns)
plain_wholes [] w = tt
plain_wholes (n ∷ ns) w = (w.0, plain_wholes ns w.1)

sayable : (o : Operand) (ns : List ℕ) → InRange o → names_in o ≡ length ns → Words ns → Sayable (operands_of o ns)
sayable O.None ns r c w = record { size = omega arith; near = tt; plain = tt }
sayable (O.U8 a) ns r c w = record { size = omega arith; near = omega arith; plain = tt }
sayable (O.I8 z) ns r c w = record { size = omega arith; near = omega arith; plain = tt }
sayable (O.U16 a) ns r c w = record { size = omega arith; near = omega arith; plain = tt }
sayable (O.Offset z) ns r c w = record { size = omega arith; near = omega arith; plain = tt }
sayable (O.U8U8 a b) ns r c w =
    record { size = omega arith; near = omega (arith, r.0); plain = (omega (arith, r.1), tt) }
sayable (O.U16U8 a b) ns r c w =
    record { size = omega arith; near = omega (arith, r.0); plain = (omega (arith, r.1), tt) }
sayable (O.U16U16 a b) ns r c w =
    record { size = omega arith; near = omega (arith, r.0); plain = (omega (arith, r.1), tt) }
sayable (O.U16U8U8 a b d) ns r c w =
    record { size = omega arith; near = omega (arith, r.0); plain = (omega (arith, r.1), (omega (arith, r.2), tt)) }
sayable (O.CallKw p n) ns r c w = record {
  size = omega (arith, r.1, length_wholes ns);
  near = omega (arith, r.0);
  plain = (omega (arith, r.1), plain_wholes ns w);
}
sayable (O.CallAttrKw a p n) ns r c w = record {
  size = omega (arith, r.2, length_wholes ns);
  near = omega (arith, r.0);
  plain = (omega (arith, r.1), (omega (arith, r.2), plain_wholes ns w));
}
sayable (O.U16U16U8 a b d) ns r c w =
    record { size = omega arith; near = omega (arith, r.0); plain = (omega (arith, r.1), (omega (arith, r.2), tt)) }

-- what is not so is said by no shape
pub unsaid : (zs : List ℤ) → (Sayable zs → ⊥) → (s : Shape) → operand_for s zs ≡ None
unsaid zs n s = by (operand_for s zs) refl
  where
    by : (o : Option Said) → operand_for s zs ≡ o → operand_for s zs ≡ None
    by None e = e
    by (Some x) e =
        let y = said_only zs x s e in
        absurd (n (subst Sayable (sym y.numbers) (sayable x.operand x.names y.range y.count y.words)))
