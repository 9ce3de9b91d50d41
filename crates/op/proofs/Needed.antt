-- No need is over 3.
-- Assumes nothing.
use mathlib.Core.Path.{◌≡◌, ap}
use Prim.Native.Nat.{ℕ, ◌≤◌, ◌<◌}
use native.Mathlib.Decide.{dec_lt}
use native.Mathlib.Omega.{arith}
use lib.Dec.{leb, leb→le}
use lib.ListN.{length, get_or-eq_default}
use Rattle.base.proofs.Keys.{in_range}
use Rattle.op.specs.Names.{name_in, name_of}
use Rattle.op.specs.Needs.{needs, need_by, need_of}
use Rattle.op.specs.Opcodes.{Row, op, same, table, row_of}
use Rattle.op.specs.declared.Shape.TheVariants.{None}

past_need : (k : ℕ) → length table ≤ k → need_of k ≡ 0
unfolding need_of name_of row_of
past_need k h = ap (λ (r : Row). need_by needs (name_in r)) (get_or-eq_default table (op "" None same) {n = k} h)

row_small : (k : ℕ) → k < length table → need_of k ≤ 3
unfolding need_of name_of row_of table
row_small k h =
    leb→le (need_of k) 3 (in_range (λ (i : ℕ). leb (need_of i) 3) 0 (length table) k (omega arith) (omega arith) tt)

pub need_small : (k : ℕ) → need_of k ≤ 3
need_small k = elim (dec_lt k (length table)) [
  | yes h ↦ row_small k h
  | no h ↦ (let e = past_need k (omega arith) in omega arith)
]
