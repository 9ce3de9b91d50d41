-- A text that begins with the header.
-- Assumes nothing.
use mathlib.Core.Path.{◌≡◌, refl, ap}
use mathlib.Core.Bool.{true, false}
use mathlib.Core.List.{List}
use Prim.Native.Nat.{ℕ, ◌≤◌, ◌<◌}
use native.Mathlib.Omega.{arith}
use lib.ListN.{length, take, length-take}
use Rattle.text.specs.Listing.{header}
use Rattle.text.specs.Reading.{same}
use Rattle.text.proofs.Opcodes.{yes_same}
use Rattle.readback.proofs.Cutting.{same_lengths}

pub header_size : length header ≡ 28
unfolding header
header_size = refl

pub short_text : (text : List ℕ) → length text < 28 → false ≡ same (take (length header) text) header
short_text text h =
    same_lengths (take (length header) text) header (λ e. omega (arith, header_size, length-take (length header) text))

pub long_text : (text : List ℕ) → same (take (length header) text) header ≡ true → 28 ≤ length text
long_text text e =
    let l = ap length (yes_same (take (length header) text) header e) in
    omega (arith, header_size, length-take (length header) text)
