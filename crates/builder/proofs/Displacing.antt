-- The 16 bits of a displacement are R16's number: target - opcode offset - 3.
-- Assumes nothing.
use mathlib.Core.Path.{◌≡◌, refl}
use mathlib.Core.Bool.{Bool, true, false}
use Prim.Native.Nat.{ℕ, suc, ◌+◌, ◌-◌, ◌≤◌, ◌<◌}
use native.Mathlib.Omega.{arith}
use lib.Dec.{ltb}
use lib.IntN.{sub_ℕ}
use borrow.Author.Tests.{ltb-true, ltb-false, lt-ltb, le-ltb}
use Rattle.code.specs.Bytes.{signed}
use Rattle.builder.specs.Marks.{near, bits}
use Rattle.builder.proofs.JumpPlans.{near_true}

module _ (o t : ℕ) (close : near o t ≡ true) where
  ahead : o + 3 ≤ t → bits o t ≡ t - (o + 3)
  unfolding bits
  ahead h = let c = near_true o t close in omega arith

  back : t < o + 3 → bits o t ≡ 65536 - (o + 3 - t)
  unfolding bits
  back h = let c = near_true o t close in omega arith

  by_side : (s : Bool) → ltb t (o + 3) ≡ s → signed 65536 (bits o t) ≡ sub_ℕ t (o + 3)
  unfolding signed
  by_side true e =
      let h = ltb-true t (o + 3) e in
      let c = near_true o t close in
      let b = back h in
      let n : 65536 - suc (bits o t) ≡ o + 3 - suc t = omega arith in
      rw (e, le-ltb (bits o t) 32768 (omega arith), lt-ltb (bits o t) 65536 (omega arith), n) refl
  by_side false e =
      let h = ltb-false t (o + 3) e in
      let c = near_true o t close in
      let b = ahead h in
      rw (e, lt-ltb (bits o t) 32768 (omega arith), b) refl

  -- "its target less the offset of its opcode less 3"
  pub displaced : signed 65536 (bits o t) ≡ sub_ℕ t (o + 3)
  displaced = by_side (ltb t (o + 3)) refl

  -- and it is a word
  pub bits_small : bits o t < 65536
  unfolding bits
  bits_small = omega arith
