-- What the fingerprint is, and what it tells apart. The proofs are proofs/Computed.antt, Telling.antt and Undoing.antt.
-- Assumes nothing.
use Rattle.std.specs.Prelude.{◌≡◌, ℕ, ◌<◌, Bool, true, not, ◌&&◌, ◌↔◌, List, [], ◌∷◌, ◌++◌, map, slice_index}
use Rattle.base.specs.Tests.{is_in}
use Rattle.op.specs.Names.{name_in}
use Rattle.op.specs.Opcodes.{Row, table}
use Rattle.op.specs.Shapes.{shape_in}
use Rattle.op.specs.declared.Shape.{Shape}
use Rattle.fingerprint.specs.Fnv.{fnv1a_of}
use Rattle.fingerprint.specs.Table.{table_bytes, fingerprint}

-- the number (R82)
abbrev pub Fingerprint : Type 0
Fingerprint = fingerprint ≡ 0x47f4_8e5e_55da_518f

-- what of a row is in the bytes
abbrev pub name_and_shape : Row → List ℕ × Shape
name_and_shape r = (name_in r, shape_in r)

-- whether no name has a zero byte in it
abbrev pub zeroless : List Row → Bool
zeroless [] = true
zeroless (r ∷ rs) = not (is_in 0 (name_in r)) && zeroless rs

-- Two tables without a zero byte in a name, as op.rs's is, give the same bytes exactly when they have the same names and
-- shapes in the same order: nothing of those is left out before the hash.
pub record BytesTell : Type 0 where
  pub exactly : (t u : List Row) → zeroless t ≡ true → zeroless u ≡ true
      → (table_bytes t ≡ table_bytes u) ↔ (map name_and_shape t ≡ map name_and_shape u)
  pub ours : zeroless table ≡ true

-- Where one byte is another, anywhere, and all else is the same, so is the hash another.
abbrev pub OneByteTells : Type 0
OneByteTells =
    (front back : List ℕ) (b c : ℕ) → b < 256 → c < 256 → ((i : ℕ) → slice_index back i < 256)
    → fnv1a_of (front ++ b ∷ back) ≡ fnv1a_of (front ++ c ∷ back) → b ≡ c
