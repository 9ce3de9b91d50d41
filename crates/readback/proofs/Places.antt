-- Offsets and targets as the code compares them.
-- Assumes nothing.
use Rattle.words.specs.declared.NumberError.TheVariants.{Not}
use Rattle.words.specs.declared.NumberError.TheVariants.{Large}
use Rattle.std.specs.Prelude.{Ok, Err, None, Option, Some}
use mathlib.Core.Path.{◌≡◌, refl, sym, ap, subst}
use mathlib.Core.Bool.{Bool, true, false, cond}
use mathlib.Core.List.{List}
use Prim.Native.Nat.{ℕ, suc, ◌+◌, ◌-◌, ◌≤◌, ◌<◌}
use native.Mathlib.Decide.{dec_lt}
use native.Mathlib.Omega.{arith}
use lib.Dec.{leb, eqb}
use lib.IntN.{ℤ, pos, negsuc, ◌+ℤ◌}
use lib.Signed.{mag}
use borrow.Author.Tests.{eq-eqb, ne_eqb, lt-ltb, le-ltb, leb-false, eqb-true, eqb-false}
use Rattle.base.proofs.Bools.{clash}
use Rattle.op.specs.declared.Operand.{Operand}
use Rattle.op.specs.declared.Operand.TheVariants as O
use Rattle.code.specs.Bytes.{unsigned}
use Rattle.text.specs.Number.{natural, value}
use Rattle.text.specs.Reading.{same, read_whole, present, read_target}
use Rattle.text.specs.Row.{dash, target_of}
use Rattle.text.proofs.Opcodes.{yes_same}
use Rattle.words.specs.Numbers.{fitted, number_of, plus_of, minus_of, whole_of}
use Rattle.words.specs.declared.Signed.{Signed}
use Rattle.words.specs.declared.Signed.TheVariants as W
use Rattle.readback.specs.Formed.{same_whole}
use Rattle.readback.specs.Inner.{whole}
use Rattle.readback.specs.Lined.{goal_of, met_if, met_of, offset_of, reached_by, reached_of}
use Rattle.readback.specs.declared.placing.Met.TheVariants as M

-- the displacement

pub no_jump : (o : Operand) → ((z : ℤ) → o ≡ O.Offset z → ⊥) → (at : ℕ)
    → target_of at o ≡ None
no_jump O.None t at = refl
no_jump (O.U8 a) t at = refl
no_jump (O.I8 z) t at = refl
no_jump (O.U16 a) t at = refl
no_jump (O.Offset z) t at = absurd (t z refl)
no_jump (O.U8U8 a b) t at = refl
no_jump (O.U16U8 a b) t at = refl
no_jump (O.U16U16 a b) t at = refl
no_jump (O.U16U8U8 a b c) t at = refl
no_jump (O.CallKw positional n) t at = refl
no_jump (O.CallAttrKw attribute positional n) t at = refl
no_jump (O.U16U16U8 a b c) t at = refl

pub aim_on : (z : ℤ) (w : ℕ) → mag z < 32768 → w ≡ unsigned 65536 z → w < 32768 → z ≡ pos w
aim_on (pos n) w h e l = ap pos (sym e)
aim_on (negsuc n) w h e l = absurd (omega arith)

pub aim_back : (z : ℤ) (w : ℕ) → mag z < 32768 → w ≡ unsigned 65536 z → 32768 ≤ w → z ≡ negsuc (65535 - w)
aim_back (pos n) w h e l = absurd (omega arith)
aim_back (negsuc n) w h e l = let q : n ≡ 65535 - w = omega arith in ap negsuc q

-- where a jump goes

-- a number's distance from zero
abbrev pub size_of : Signed → ℕ
size_of (W.Plus n) = n
size_of (W.Minus n) = n

module _ (at n : ℕ) where
  pub goal_near : n < at + 3 → W.Plus (at + 3 - n - 1) ≡ goal_of (pos (at + 3) +ℤ whole true n)
  goal_near h =
      let e : at + 3 - suc n ≡ at + 3 - n - 1 = omega arith in
      rw (le-ltb (at + 3) (suc n) h) (ap W.Plus (sym e))

  pub goal_far : at + 3 ≤ n → W.Minus (n - (at + 3) + 1) ≡ goal_of (pos (at + 3) +ℤ whole true n)
  goal_far h =
      let e : suc (suc n - suc (at + 3)) ≡ n - (at + 3) + 1 = omega arith in
      rw (lt-ltb (at + 3) (suc n) (omega arith)) (ap W.Minus (sym e))

  pub goal_small : (minus : Bool) → at ≤ 65536 → n < 65536 → size_of (goal_of (pos (at + 3) +ℤ whole minus n)) ≤ 131100
  goal_small false h l = omega arith
  goal_small true h l = by (dec_lt n (at + 3))
    where
      by : Dec (n < at + 3) → size_of (goal_of (pos (at + 3) +ℤ whole true n)) ≤ 131100
      by (yes g) = subst (λ (x : Signed). size_of x ≤ 131100) (goal_near g) (omega arith)
      by (no g) = subst (λ (x : Signed). size_of x ≤ 131100) (goal_far (omega arith)) (omega arith)

-- a number that was read in 64 bits, and one that fits them

large_other : (n m : ℕ) → m ≤ 131100 → 18446744073709551615 < n → eqb n m ≡ false
large_other n m h l = ne_eqb n m (λ e. omega arith)

met_plus : (n : ℕ) (z : ℤ) → size_of (goal_of z) ≤ 131100 → (b : Bool) → leb n 18446744073709551615 ≡ b
    → met_of (plus_of (cond b (Ok n) (Err Large))) (goal_of z) ≡ met_if (same_whole (pos n) z)
unfolding met_of plus_of
met_plus n (pos m) h true e = refl
met_plus n (negsuc m) h true e = refl
met_plus n (pos m) h false e = rw (large_other n m h (leb-false n 18446744073709551615 e))
met_plus n (negsuc m) h false e = refl

met_minus : (n : ℕ) (z : ℤ) → size_of (goal_of z) ≤ 131100 → (b : Bool) → leb (suc n) 18446744073709551615 ≡ b
    → met_of (minus_of (cond b (Ok (suc n)) (Err Large))) (goal_of z) ≡ met_if (same_whole (negsuc n) z)
unfolding met_of minus_of
met_minus n (pos m) h true e = rw (ne_eqb (suc n) 0 (λ q. omega arith))
met_minus n (negsuc m) h true e = rw (ne_eqb (suc n) 0 (λ q. omega arith)) (ap met_if (same_suc n m))
  where
    same_suc : (a b : ℕ) → eqb (suc a) (suc b) ≡ eqb a b
    same_suc a b = by (eqb a b) refl
      where
        by : (x : Bool) → eqb a b ≡ x → eqb (suc a) (suc b) ≡ x
        by true e = eq-eqb (suc a) (suc b) (ap suc (eqb-true a b e))
        by false e = ne_eqb (suc a) (suc b) (λ q. eqb-false a b e (omega arith))
met_minus n (pos m) h false e = refl
met_minus n (negsuc m) h false e =
    rw (ne_eqb n m (λ q. omega (arith, leb-false (suc n) 18446744073709551615 e)))

pub met_reached : (y : Option ℤ) (z : ℤ) → size_of (goal_of z) ≤ 131100
    → met_of (whole_of y) (goal_of z) ≡ reached_by y z
unfolding whole_of reached_by met_of fitted
met_reached None z h = refl
met_reached (Some (pos n)) z h = met_plus n z h (leb n 18446744073709551615) refl
met_reached (Some (negsuc n)) z h = met_minus n z h (leb (suc n) 18446744073709551615) refl

-- a target column

pub reached_jump : (t : List ℕ) (z : ℤ) → reached_by (read_whole t) z ≡ reached_of (read_target t) (Some z)
unfolding reached_by reached_of
reached_jump t z = by (same t dash) refl
  where
    told : (y : Option ℤ) → reached_by y z ≡ reached_of (present y) (Some z)
    told None = refl
    told (Some y) = refl

    by : (b : Bool) → same t dash ≡ b
        → reached_by (read_whole t) z ≡ reached_of (cond b (Some None) (present (read_whole t))) (Some z)
    by true e = ap (λ (l : List ℕ). reached_by (read_whole l) z) (yes_same t dash e)
    by false e = told (read_whole t)

pub reached_dash : (t : List ℕ) → same t dash ≡ true → M.Here ≡ reached_of (read_target t) None
unfolding reached_of
reached_dash t e = rw e

pub reached_other : (t : List ℕ) → same t dash ≡ false → M.Not ≡ reached_of (read_target t) None
unfolding reached_of
reached_other t e = rw e (by (read_whole t))
  where
    by : (y : Option ℤ) → M.Not ≡ reached_of (present y) None
    by None = refl
    by (Some y) = refl

-- an offset column

module _ (at : ℕ) (t : List ℕ) (h : at ≤ 18446744073709551615) where
  number_fits : (b : Bool) → natural t ≡ b → (v : ℕ) → cond b (fitted (value t)) (Err Not) ≡ Ok v
      → (natural t ≡ true) × (value t ≡ v)
  unfolding fitted
  number_fits false q v e = clash cc
  number_fits true q v e = (q, by (leb (value t) 18446744073709551615) e)
    where
      by : (b : Bool) → cond b (Ok (value t)) (Err Large) ≡ Ok v → value t ≡ v
      by true e = cc
      by false e = clash cc

  number_large : (b : Bool) → natural t ≡ b → cond b (fitted (value t)) (Err Not) ≡ (Err Large)
      → (natural t ≡ true) × (eqb (value t) at ≡ false)
  unfolding fitted
  number_large false q e = clash cc
  number_large true q e = (q, by (leb (value t) 18446744073709551615) refl e)
    where
      by : (b : Bool) → leb (value t) 18446744073709551615 ≡ b → cond b (Ok (value t)) (Err Large) ≡ (Err Large)
          → eqb (value t) at ≡ false
      by true p e = clash cc
      by false p e = ne_eqb (value t) at (λ z. omega (arith, leb-false (value t) 18446744073709551615 p))

  number_not : (b : Bool) → natural t ≡ b → cond b (fitted (value t)) (Err Not) ≡ (Err Not) → natural t ≡ false
  unfolding fitted
  number_not false q e = q
  number_not true q e = by (leb (value t) 18446744073709551615) e
    where
      by : (b : Bool) → cond b (Ok (value t)) (Err Large) ≡ (Err Not) → natural t ≡ false
      by true e = clash cc
      by false e = clash cc

  pub offset_is : (v : ℕ) → number_of t ≡ Ok v → met_if (eqb v at) ≡ offset_of at t
  unfolding number_of offset_of
  offset_is v e = let f = number_fits (natural t) refl v e in rw (f.0, f.1)

  pub offset_large : number_of t ≡ (Err Large) → M.Elsewhere ≡ offset_of at t
  unfolding number_of offset_of
  offset_large e = let f = number_large (natural t) refl e in rw (f.0, f.1)

  pub offset_not : number_of t ≡ (Err Not) → M.Not ≡ offset_of at t
  unfolding number_of offset_of
  offset_not e = rw (number_not (natural t) refl e)
