-- A number and the kind of a handler: one answer.
-- Assumes nothing.
use mathlib.Core.Path.{◌≡◌, refl, ap}
use Prim.Native.Nat.{ℕ, ◌≤◌}
use native.Mathlib.Omega.{arith}
use Rattle.std.specs.Prelude.{Result}
use Rattle.base.proofs.Numbered.{numbered_one}
use Rattle.code.specs.declared.HandlerKind.{HandlerKind}
use Rattle.code.specs.declared.HandlerKind.TheVariants.{Consuming, Cleanup}
use Rattle.code.specs.declared.entries.NoKind.{NoKind}
use Rattle.code.specs.Entries.{kind_number, Kinds}

same_kind : (k l : HandlerKind) → kind_number k ≡ kind_number l → k ≡ l
same_kind Consuming Consuming e = refl
same_kind Consuming Cleanup e = absurd (omega (arith, e))
same_kind Cleanup Consuming e = absurd (omega (arith, e))
same_kind Cleanup Cleanup e = refl

kind_low : (k : HandlerKind) → kind_number k ≤ 1
kind_low Consuming = omega arith
kind_low Cleanup = omega arith

pub kind_one : (n : ℕ) (r s : Result HandlerKind NoKind) → Kinds n r → Kinds n s → r ≡ s
kind_one n r s =
    numbered_one kind_number (λ (e : NoKind). e.0) 1 n r s same_kind
    (λ (d e : NoKind) (p : d.0 ≡ e.0). ap (λ (k : ℕ). record { 0 = k }) p) kind_low
