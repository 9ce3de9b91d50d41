-- The flags of Assert and AssertFailed: R6; op.rs, `assert_flags`, `decode_assert_flags`; CmpOperator.
-- Assumes nothing.
use Rattle.std.specs.Prelude.{cond, List, [], ◌∷◌, ℕ, ◌+◌, ◌-◌, eqb, leb, get_or, Some, None, Option, ◌≡◌, ◌<◌, Result, MatchResult}
use Rattle.op.specs.declared.flags.NoComparison.{NoComparison}
use Rattle.op.specs.declared.CmpOperator.{CmpOperator}
use Rattle.op.specs.declared.CmpOperator.TheVariants.{Eq, NotEq, Lt, LtE, Gt, GtE, Is, IsNot, In, NotIn}

-- expressions.rs, `enum CmpOperator`, `as_operand`: comparison 0 to 9
abbrev pub comparison_number : CmpOperator → ℕ
comparison_number Eq = 0
comparison_number NotEq = 1
comparison_number Lt = 2
comparison_number LtE = 3
comparison_number Gt = 4
comparison_number GtE = 5
comparison_number Is = 6
comparison_number IsNot = 7
comparison_number In = 8
comparison_number NotIn = 9

-- a number and the comparison whose number it is, or an error with a number that no comparison has
abbrev pub Compares : ℕ → Result CmpOperator NoComparison → Type 0
Compares n r = MatchResult r (λ operator. comparison_number operator ≡ n) (λ e. (e.0 ≡ n) × (9 < n))

-- the comparisons in the order of their numbers, and what each decodes to
abbrev pub comparisons : List (Option (Option CmpOperator))
comparisons =
    Some (Some Eq) ∷ Some (Some NotEq) ∷ Some (Some Lt) ∷ Some (Some LtE) ∷ Some (Some Gt) ∷
    Some (Some GtE) ∷ Some (Some Is) ∷ Some (Some IsNot) ∷ Some (Some In) ∷ Some (Some NotIn)
    ∷ []

-- "0 means no comparison, 0x10 to 0x19 comparison 0 to 9" (R6)
abbrev pub flags_of : Option CmpOperator → ℕ
flags_of None = 0
flags_of (Some operator) = 0x10 + comparison_number operator

-- the same, read: "every other byte is invalid" (R6)
unfoldable pub decoded_flags : ℕ → Option (Option CmpOperator)
decoded_flags b =
    cond (eqb b 0) (Some None) (cond (leb 0x10 b) (get_or comparisons (b - 0x10) None) None)
