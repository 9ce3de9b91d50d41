-- What private functions promise each other.
-- Assumes nothing.
use Rattle.std.specs.Prelude.{cond, ℕ, Option, Some, None, leb}
use Rattle.code.specs.declared.CodeRange.{CodeRange}
use Rattle.calls.specs.State.{offset_max}

-- the range of two offsets; none where one of them is too large
abbrev pub range_in : (start end : ℕ) → Option CodeRange
range_in start end =
    cond (leb start offset_max)
    (cond (leb end offset_max) (Some (record { start = start; end = end })) None)
    None
