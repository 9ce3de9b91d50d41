-- `fingerprint::opcode_fingerprint` meets its contract: the loop's invariant: what the table has from the opcode on,
-- hashed on, gives the fingerprint.
-- Assumes nothing.
use Rattle.std.proofs.Common.{ℕ, ◌+◌, sym, refl, ap, ◌∙◌, arith}
use Rattle.fingerprint.specs.Fnv.{hash_from, fnv1a_of}
use Rattle.fingerprint.specs.Table.{table_bytes, fingerprint}
use Rattle.fingerprint.proofs.Tabled.{from, hash_opcode, hash_last}
use Rattle.fingerprint.proofs.opcode_fingerprint.Goals as goal

pub loop-opcode-init : goal.loop-opcode-init
unfolding fingerprint table_bytes fnv1a_of
loop-opcode-init c = refl

pub loop-opcode-preserved : goal.loop-opcode-preserved
loop-opcode-preserved c =
    let k = c.loop-opcode.opcode in
    ap (λ (h : ℕ). hash_from h (from (k + 1))) c.opcode_on-hash.ensures
    ∙ hash_opcode c.loop-opcode.hash k (omega arith)
    ∙ c.loop-opcode.invariant

pub returns : goal.returns
returns c = sym (hash_last c.loop-opcode.hash c.loop-opcode.opcode (omega arith)) ∙ c.loop-opcode.invariant
