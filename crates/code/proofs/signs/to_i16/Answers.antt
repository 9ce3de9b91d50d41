-- `code::signs::to_i16` meets its contract: what the library reads is two's complement.
-- Assumes nothing.
use mathlib.Core.Path.{refl, sym, ap, ◌∙◌}
use lib.IntN.{ℤ}
use mir.Facts.{of_z-to_z}
use native.Mathlib.Omega.{arith}
use mir.Syntax.{w16}
use mir.Val.{to_z, of_z}
use Rattle.code.proofs.Twos.{signed_to_z}
use Rattle.code.proofs.signs.to_i16.Goals as goal

pub returns : goal.returns
returns c =
    ap (λ (z : ℤ). to_z w16 (of_z w16 z)) c.cast_signed.ensures
    ∙ ap (to_z w16) (of_z-to_z {w = w16} {n = c.args.w} (record { fits = omega arith }))
    ∙ sym (signed_to_z w16 65536 refl refl c.args.w (omega arith))
