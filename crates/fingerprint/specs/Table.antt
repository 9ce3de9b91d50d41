-- The fingerprint of an opcode table: op.rs, `opcode_fingerprint`.
-- Assumes nothing.
use Rattle.std.specs.Prelude.{ℕ, suc, List, [], ◌∷◌, ◌++◌}
use Rattle.op.specs.Names.{name_in}
use Rattle.op.specs.Opcodes.{Row, table}
use Rattle.op.specs.Shapes.{shape_in, shape_number}
use Rattle.fingerprint.specs.Fnv.{fnv1a_of}

-- R82, "its byte, its name as in op.rs, a zero byte and its shape number"
abbrev pub bytes_by : (k : ℕ) (name : List ℕ) (shape : ℕ) → List ℕ
bytes_by k name shape = k ∷ (name ++ (0 ∷ shape ∷ []))

-- of the rows of a table, the first of which is opcode k's
abbrev pub bytes_from : ℕ → List Row → List ℕ
bytes_from k [] = []
bytes_from k (r ∷ rs) = bytes_by k (name_in r) (shape_number (shape_in r)) ++ bytes_from (suc k) rs

-- R82, "for each opcode from 0 upwards"
unfoldable pub table_bytes : List Row → List ℕ
table_bytes rows = bytes_from 0 rows

-- R82, the hash of them all, for the table of op.rs
unfoldable pub fingerprint : ℕ
fingerprint = fnv1a_of (table_bytes table)
