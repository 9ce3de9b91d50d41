-- What a text says as a natural number in 64 bits.
-- Assumes nothing.
use Rattle.std.specs.Prelude.{cond, List, ℕ, suc, leb, eqb, ℤ, pos, negsuc, Result, Ok, Err, None, Option, Some}
use Rattle.text.specs.Number.{natural, value}
use Rattle.words.specs.declared.NumberError.{NumberError}
use Rattle.words.specs.declared.NumberError.TheVariants.{Large, Not}
use Rattle.words.specs.declared.Signed.{Signed}
use Rattle.words.specs.declared.Signed.TheVariants.{Plus, Minus}

-- a number, where it is below 2^64
unfoldable pub fitted : ℕ → Result ℕ NumberError
fitted n = cond (leb n 18446744073709551615) (Ok n) (Err Large)

-- decimal digits with no zero in front of another, and the number that they say
unfoldable pub number_of : List ℕ → Result ℕ NumberError
number_of t = cond (natural t) (fitted (value t)) (Err Not)

-- a number as a whole one
unfoldable pub plus_of : Result ℕ NumberError → Result Signed NumberError
plus_of (Ok n) = Ok (Plus n)
plus_of (Err e) = Err e

-- the same below zero, where it is not 0
unfoldable pub minus_of : Result ℕ NumberError → Result Signed NumberError
minus_of (Ok n) = cond (eqb n 0) (Err Not) (Ok (Minus n))
minus_of (Err e) = Err e

-- a whole number by its sign and its magnitude in 64 bits
unfoldable pub whole_of : Option ℤ → Result Signed NumberError
whole_of None = Err Not
whole_of (Some (pos n)) = plus_of (fitted n)
whole_of (Some (negsuc n)) = minus_of (fitted (suc n))
