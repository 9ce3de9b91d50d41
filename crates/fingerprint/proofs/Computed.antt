-- The fingerprint is computed.
-- Assumes nothing.
use Rattle.std.proofs.Common.{refl}
use Rattle.op.specs.Opcodes.{table}
use Rattle.fingerprint.specs.Fnv.{wrapped, mixed, hash_from, fnv1a_of}
use Rattle.fingerprint.specs.Table.{table_bytes, fingerprint}
use Rattle.fingerprint.specs.Statements.{Fingerprint}

pub computed : Fingerprint
unfolding fingerprint table_bytes fnv1a_of hash_from mixed wrapped table
computed = refl
