use Rattle.std.proofs.Common.{◌≡◌, drop}
use Rattle.fingerprint.specs.Fnv.{hash_from}
use Rattle.fingerprint.proofs.hash_on.Given as goal

abbrev pub invariant-loop-byte : goal.invariant-loop-byte
invariant-loop-byte l = hash_from l.h (drop l.byte-index l.bytes) ≡ hash_from l.hash l.bytes
