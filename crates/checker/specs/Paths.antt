-- Paths through a code, as a reader follows them with a finger: R76. A path is a list of places; each step goes behind
-- the instruction there or takes its jump, and the depth is carried along by the effects alone. Nothing here speaks of
-- an assignment. `last` is the last opcode of the table, s the code, st the starts.
-- Assumes nothing.
use Rattle.std.specs.Prelude.{◌≡◌, false, ◌⊎◌, ℕ, ◌+◌, ◌≤◌, ℤ, pos, ◌+ℤ◌, Ok}
use mathlib.Core.List.{List, [], ◌∷◌, Memᴰ}
use Rattle.op.specs.Effects.{effect_of, taken_of, dead_maker, net_of}
use Rattle.op.specs.declared.Operand.TheVariants.{Offset}
use Rattle.code.specs.Depths.{Begins}
use Rattle.code.specs.Reading.{Spot, instructions_in}
use Rattle.code.specs.Tables.{jump_size}

-- a place on a path, and the depth of the stack there: a whole number, which nothing keeps in range
pub record Point : Type 0 where
  pub offset : ℕ
  pub depth : ℤ

-- the instruction that reading the code meets at an offset
pub record Met (last : ℕ) (s : List ℕ) (o : ℕ) : Type 0 where
  pub spot : Spot
  pub read : Memᴰ spot (instructions_in last s).spots
  pub here : spot.offset ≡ o

-- a step behind the instruction at x, which does not make dead, by its effect
pub record FallsThrough (last : ℕ) (s : List ℕ) (x y : Point) : Type 0 where
  pub met : Met last s x.offset
  pub live : dead_maker met.spot.what.opcode ≡ false
  pub behind : y.offset ≡ x.offset + met.spot.size
  pub effect : ℤ
  pub net : net_of (effect_of met.spot.what.opcode met.spot.what.operand) ≡ Ok effect
  pub depth : y.depth ≡ x.depth +ℤ effect

-- a step to the target of the jump at x, by its taken effect
pub record TakesJump (last : ℕ) (s : List ℕ) (x y : Point) : Type 0 where
  pub met : Met last s x.offset
  pub displacement : ℤ
  pub operand : met.spot.what.operand ≡ Offset displacement
  pub target : pos y.offset ≡ pos (x.offset + jump_size) +ℤ displacement
  pub effect : ℤ
  pub taken : net_of (taken_of met.spot.what.opcode) ≡ Ok effect
  pub depth : y.depth ≡ x.depth +ℤ effect

-- from x on, each place of a list is a step from the one before it
abbrev pub Follows : ℕ → List ℕ → Point → List Point → Type 0
Follows last s x [] = Unit {0}
Follows last s x (y ∷ way) = (FallsThrough last s x y ⊎ TakesJump last s x y) × Follows last s y way

-- a start, and its depth
pub record AtStart (st : List ℕ) (x : Point) : Type 0 where
  pub told : ℕ
  pub begins : Begins st x.offset told
  pub depth : x.depth ≡ pos told

-- "A path begins at a start with its depth" (R76)
abbrev pub Path : ℕ → List ℕ → List ℕ → List Point → Type 0
Path last s st [] = ⊥
Path last s st (x ∷ way) = AtStart st x × Follows last s x way

-- "no depth along a path is below 0 or above the greatest, and where there is a start some path has just that depth"
-- (R76); without a start the greatest is 0
pub record Enough (last : ℕ) (s st : List ℕ) (greatest : ℕ) : Type 0 where
  pub most : (way : List Point) → Path last s st way → (x : Point) → Memᴰ x way
      → (d : ℕ) × (x.depth ≡ pos d) × (d ≤ greatest)
  pub reached : (o d : ℕ) → Begins st o d
      → (way : List Point) × (x : Point) × Path last s st way × Memᴰ x way × (x.depth ≡ pos greatest)
  pub none : ((o d : ℕ) → Begins st o d → ⊥) → greatest ≡ 0
