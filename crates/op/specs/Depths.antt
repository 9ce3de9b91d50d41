-- The depth behind an instruction: R11, R12.
-- Assumes nothing.
use Rattle.op.specs.declared.Effect.{Effect}
use Rattle.std.specs.Prelude.{cond, ℕ, ◌+◌, ◌-◌, leb, Ok, Err, Result}
use Rattle.op.specs.Effects.{effect_of, taken_of}
use Rattle.op.specs.declared.Operand.{Operand}
use Rattle.op.specs.declared.Refusal.{Refusal}
use Rattle.op.specs.declared.Refusal.TheVariants.{DepthBelowZero, DepthTooLarge}

-- the greatest depth there is
abbrev pub deepest : ℕ
deepest = 65535

-- the depth that an effect leads to from d: `low` below 0, 5 above the greatest
unfoldable pub landing : Refusal → ℕ → Result Effect Refusal → Result ℕ Refusal
landing low d (Ok effect) =
    cond (leb effect.down (d + effect.up)) (cond (leb (d + effect.up - effect.down) deepest) (Ok (d + effect.up - effect.down)) (Err DepthTooLarge))
    (Err low)
landing low d (Err r) = Err r

-- line 4: below 0 after falling through (R11)
abbrev pub low_falling : Refusal
low_falling = DepthBelowZero

-- line 4, "or a taken depth is" (R12)
abbrev pub low_taken : Refusal
low_taken = DepthBelowZero

-- the depth after falling through: 1, 2, then 4 or 5 (R11)
abbrev pub after_of : ℕ → ℕ → Operand → Result ℕ Refusal
after_of d k o = landing low_falling d (effect_of k o)

-- the depth that a taken jump arrives with: 1, 3, then 4 or 5 (R12)
abbrev pub taken_depth_of : ℕ → ℕ → Result ℕ Refusal
taken_depth_of d k = landing low_taken d (taken_of k)
