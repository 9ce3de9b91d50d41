use Rattle.std.proofs.Common.{◌≡◌}
use Rattle.fingerprint.specs.Fnv.{hash_from}
use Rattle.fingerprint.specs.Table.{fingerprint}
use Rattle.fingerprint.proofs.Tabled.{from}
use Rattle.fingerprint.proofs.opcode_fingerprint.Given as goal

abbrev pub invariant-loop-opcode : goal.invariant-loop-opcode
invariant-loop-opcode l = hash_from l.hash (from l.opcode) ≡ fingerprint
