-- Laws of the opcode table.
-- Assumes nothing.
use mathlib.Core.Path.{◌≡◌, refl}
use mathlib.Core.Bool.{true}
use mathlib.Core.Logic.{◌↔◌}
use Prim.Native.Nat.{ℕ, suc, ◌<◌}
use native.Mathlib.Omega.{arith}
use lib.ListN.{length}
use borrow.Author.Tests.{le-leb, leb-true}
use Rattle.op.specs.Opcodes.{table, last_opcode, known}

-- the rows are numbered from 0 to the last opcode
pub rows : length table ≡ suc last_opcode
unfolding table
rows = refl

-- the known opcodes are those that have a row
pub known_row : (k : ℕ) → (known k ≡ true) ↔ (k < length table)
unfolding known
known_row k = (λ e. omega (arith, rows, leb-true k last_opcode e), λ h. le-leb k last_opcode (omega (arith, rows)))
