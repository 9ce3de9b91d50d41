-- Where a reader goes on: R14, one step after another.
-- Assumes nothing.
use Rattle.code.specs.Decode.{Step}
use Rattle.std.specs.Prelude.{cond, ℕ, ◌+◌, ◌-◌, leb, Ok, Err, Some, None}

-- the offset behind what a step found at an offset of `size` bytes: behind an instruction that ends in them; else it
-- stays
abbrev pub after_step : ℕ → ℕ → Step → ℕ
after_step size at (Ok (Some i)) = cond (leb i.size (size - at)) (at + i.size) at
after_step size at (Ok None) = at
after_step size at (Err r) = at
