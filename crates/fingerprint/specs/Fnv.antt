-- 64-bit FNV-1a, as op.rs has it in `opcode_fingerprint`.
-- Assumes nothing.
use Rattle.std.specs.Prelude.{ℕ, ◌*◌, ◌%◌, ◌^◌, List, [], ◌∷◌, bit_xor}

-- R80; op.rs, `OFFSET_BASIS`
abbrev pub offset_basis : ℕ
offset_basis = 0xcbf2_9ce4_8422_2325

-- R80; op.rs, `PRIME`
abbrev pub prime : ℕ
prime = 0x0100_0000_01b3

-- R81, "The product wraps at 64 bits": the remainder of the exact product
unfoldable pub wrapped : ℕ → ℕ → ℕ
wrapped a b = a * b % 2 ^ 64

-- R80; op.rs, `hash ^= u64::from(value)`, and the product of that
unfoldable pub mixed : ℕ → ℕ → ℕ
mixed hash value = wrapped (bit_xor hash value) prime

-- the same for each of some bytes, in their order
unfoldable pub hash_from : ℕ → List ℕ → ℕ
hash_from hash [] = hash
hash_from hash (value ∷ rest) = hash_from (mixed hash value) rest

-- R80, the hash of some bytes
unfoldable pub fnv1a_of : List ℕ → ℕ
fnv1a_of bytes = hash_from offset_basis bytes
