-- `code::signs::to_i8` meets its contract: what the library reads is two's complement.
-- Assumes nothing.
use mathlib.Core.Path.{refl, sym, ap, ◌∙◌}
use lib.IntN.{ℤ}
use mir.Facts.{of_z-to_z}
use native.Mathlib.Omega.{arith}
use mir.Syntax.{w8}
use mir.Val.{to_z, of_z}
use Rattle.code.proofs.Twos.{signed_to_z}
use Rattle.code.proofs.signs.to_i8.Goals as goal

pub returns : goal.returns
returns c =
    ap (λ (z : ℤ). to_z w8 (of_z w8 z)) c.cast_signed.ensures
    ∙ ap (to_z w8) (of_z-to_z {w = w8} {n = c.args.b} (record { fits = omega arith }))
    ∙ sym (signed_to_z w8 256 refl refl c.args.b (omega arith))
