-- A step of the hash can be undone, so no later byte hides a change.
-- Assumes nothing.
use Rattle.std.proofs.Common.{◌≡◌, ℕ, suc, ◌^◌, ◌<◌, List, [], ◌∷◌, get_or, sym, refl, ap, ◌∙◌, lt_of_lt_of_le, mod-lt, arith, pow_pos, pow_mono}
use lib.Bits.{xor_comm, xor_lt}
use Rattle.fingerprint.specs.Fnv.{offset_basis, prime, wrapped, mixed, hash_from, fnv1a_of}
use Rattle.fingerprint.specs.Statements.{OneByteTells}
use Rattle.fingerprint.proofs.Hashing.{hash_join}
use Rattle.fingerprint.proofs.Numbers.{xor_cancel, factor_back}

-- the product of the prime and this number leaves 1
abbrev inverse : ℕ
inverse = 0xce96_5057_aff6_957b

wrapped_back : (x : ℕ) → x < 2 ^ 64 → wrapped (wrapped x prime) inverse ≡ x
unfolding wrapped
wrapped_back x h = factor_back (2 ^ 64) prime inverse 0xce_9650_590f x refl h

wrapped_cancel : (x y : ℕ) → x < 2 ^ 64 → y < 2 ^ 64 → wrapped x prime ≡ wrapped y prime → x ≡ y
wrapped_cancel x y h k e = sym (wrapped_back x h) ∙ ap (λ (n : ℕ). wrapped n inverse) e ∙ wrapped_back y k

mixed_lt : (hash value : ℕ) → mixed hash value < 2 ^ 64
unfolding mixed wrapped
mixed_lt hash value = mod-lt _ (pow_pos 64)

hash_lt : (hash : ℕ) (xs : List ℕ) → hash < 2 ^ 64 → hash_from hash xs < 2 ^ 64
unfolding hash_from
hash_lt hash [] h = h
hash_lt hash (x ∷ xs) h = hash_lt (mixed hash x) xs (mixed_lt hash x)

byte_lt : {b : ℕ} → b < 256 → b < 2 ^ 64
byte_lt h = lt_of_lt_of_le h (pow_mono {i = 8} {j = 64} (omega arith))

-- one step, undone: the byte that went in, and the hash before it
mixed_byte : (hash b c : ℕ) → hash < 2 ^ 64 → b < 256 → c < 256 → mixed hash b ≡ mixed hash c → b ≡ c
unfolding mixed
mixed_byte hash b c h k l e =
    xor_cancel hash b c (wrapped_cancel _ _ (xor_lt 64 hash b h (byte_lt k)) (xor_lt 64 hash c h (byte_lt l)) e)

mixed_hash : (g h b : ℕ) → g < 2 ^ 64 → h < 2 ^ 64 → b < 256 → mixed g b ≡ mixed h b → g ≡ h
unfolding mixed
mixed_hash g h b k l m e =
    xor_cancel b g h (xor_comm b g
    ∙ wrapped_cancel _ _ (xor_lt 64 g b k (byte_lt m)) (xor_lt 64 h b l (byte_lt m)) e ∙ xor_comm h b)

-- all steps, undone
hash_cancel : (g h : ℕ) (xs : List ℕ) → g < 2 ^ 64 → h < 2 ^ 64 → ((i : ℕ) → get_or xs i 0 < 256)
    → hash_from g xs ≡ hash_from h xs → g ≡ h
unfolding hash_from
hash_cancel g h [] k l bytes e = e
hash_cancel g h (x ∷ xs) k l bytes e =
    mixed_hash g h x k l (bytes 0)
    (hash_cancel (mixed g x) (mixed h x) xs (mixed_lt g x) (mixed_lt h x) (λ i. bytes (suc i)) e)

pub one_byte_tells : OneByteTells
unfolding fnv1a_of hash_from
one_byte_tells front back b c h k bytes e =
    let before = hash_from offset_basis front in
    let after = sym (hash_join offset_basis front (b ∷ back)) ∙ e ∙ hash_join offset_basis front (c ∷ back) in
    mixed_byte before b c (hash_lt offset_basis front (omega arith)) h k
    (hash_cancel (mixed before b) (mixed before c) back (mixed_lt before b) (mixed_lt before c) bytes after)
