-- The bytes of the opcode table, opcode by opcode.
-- Assumes nothing.
use Rattle.std.proofs.Common.{◌≡◌, ℕ, suc, ◌+◌, ◌≤◌, List, [], ◌∷◌, ◌++◌, drop, sym, refl, ap, ◌∙◌, add-one, arith, drop_of_length-le, drop-cons}
use Rattle.op.specs.Names.{name_in, name_of}
use Rattle.op.specs.Opcodes.{Row, table, last_opcode, row_of}
use Rattle.op.specs.Shapes.{shape_in, shape_number, shape_no}
use Rattle.op.proofs.Listed.{rows, known_row}
use Rattle.fingerprint.specs.Fnv.{mixed, hash_from}
use Rattle.fingerprint.specs.Table.{bytes_by, bytes_from}
use Rattle.fingerprint.proofs.Hashing.{hash_join}

-- the bytes of an opcode, hashed in four parts
pub hash_parts : (hash k : ℕ) (name : List ℕ) (shape : ℕ)
    → mixed (mixed (hash_from (mixed hash k) name) 0) shape ≡ hash_from hash (bytes_by k name shape)
unfolding hash_from
hash_parts hash k name shape = sym (hash_join (mixed hash k) name (0 ∷ shape ∷ []))

-- what the table has from opcode k on
abbrev pub from : ℕ → List ℕ
from k = bytes_from k (drop k table)

row_shape : (k : ℕ) → k ≤ last_opcode → shape_no k ≡ shape_number (shape_in (row_of k))
unfolding shape_no
row_shape k h = rw ((known_row k).1 (omega (arith, rows))) refl

from_step : (k : ℕ) → k ≤ last_opcode
    → from k ≡ bytes_by k (name_in (row_of k)) (shape_number (shape_in (row_of k))) ++ from (k + 1)
unfolding row_of
from_step k h = rw (add-one k) (ap (bytes_from k) (drop-cons table k _ (omega (arith, rows))))

-- one opcode more
pub hash_opcode : (hash k : ℕ) → k ≤ last_opcode
    → hash_from (hash_from hash (bytes_by k (name_of k) (shape_no k))) (from (k + 1)) ≡ hash_from hash (from k)
unfolding name_of
hash_opcode hash k h =
    ap (λ (shape : ℕ). hash_from (hash_from hash (bytes_by k (name_in (row_of k)) shape)) (from (k + 1)))
    (row_shape k h)
    ∙ sym (ap (hash_from hash) (from_step k h) ∙ hash_join hash _ (from (k + 1)))

pub hash_last : (hash k : ℕ) → suc last_opcode ≤ k → hash_from hash (from k) ≡ hash
unfolding hash_from
hash_last hash k h =
    let none : drop k table ≡ [] = drop_of_length-le table {i = k} (omega (arith, rows)) in
    ap (λ (left : List Row). hash_from hash (bytes_from k left)) none
