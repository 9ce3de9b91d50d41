-- What the theorem asks of an instruction set.
-- Assumes nothing.
use mathlib.Core.Path.{◌≡◌}
use Rattle.std.specs.Prelude.{Some}
use Prim.Native.Nat.{ℕ, ◌≤◌, ◌<◌}
use lib.ListN.{length}
use Rattle.demand.specs.Isa.{Isa}

pub record Laws (I : Isa) : Type 1 where
  -- what can be written
  pub valid : I.Plain → Type 0
  pub jumps : I.Jump → Type 0
  pub some_byte : (p : I.Plain) → 0 < length (I.bytes p)
  -- depths stay in range, and only a jump has the effect of one
  pub net_small : (p : I.Plain) (d e : ℕ) → I.net p d ≡ Some e → e ≤ 65535
  pub jnet_small : (j : I.Jump) (d e : ℕ) → I.jnet j d ≡ Some e → e ≤ 65535
  pub taken_small : (j : I.Jump) (d e : ℕ) → I.taken j d ≡ Some e → e ≤ 65535
  pub jnet_jumps : (j : I.Jump) (d e : ℕ) → I.jnet j d ≡ Some e → jumps j
