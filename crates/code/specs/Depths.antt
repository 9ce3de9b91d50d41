-- Depths of the code: R48 to R51. Instruction starts, assignments of depths, the smallest one, and the depths
-- that a path from a start leads to. Here `last` is the last opcode of the table, s the code, st the lent starts, and an
-- assignment gives an offset a depth or none.
-- Assumes nothing.
use Rattle.op.specs.Effects.{by}
use Rattle.op.specs.declared.Effect.{Effect}
use Rattle.std.specs.Prelude.{◌≡◌, true, ℕ, suc, ◌+◌, ◌*◌, ◌≤◌, ◌<◌, length, drop, get_or, Ok, Some, Option}
use mathlib.Core.List.{List, [], ◌∷◌, Memᴰ}
use Rattle.op.specs.Depths.{deepest, landing, low_falling}
use Rattle.op.specs.declared.Refusal.{Refusal}
use Rattle.code.specs.declared.Flow.{Flow}
use Rattle.code.specs.declared.Goal.TheVariants.{Nowhere, To}
use Rattle.code.specs.Flow.{flow_of}
use Rattle.code.specs.Reading.{instructions_in, places_in}

-- an instruction that moves on as f says stands at o
pub record Stands (last : ℕ) (s : List ℕ) (o : ℕ) (f : Flow) : Type 0 where
  pub is : flow_of last o (drop o s) ≡ Ok (Some f)

-- "the instructions' starts and the end": reading from 0 on comes to o (R48)
pub record Place (last : ℕ) (s : List ℕ) (o : ℕ) : Type 0 where
  pub is : Memᴰ o (places_in (instructions_in last s))

-- "1 or 22 at the lowest offset": reading stops at a fault
pub record Faulty (last : ℕ) (s : List ℕ) (q : Refusal) : Type 0 where
  pub is : (instructions_in last s).fault ≡ Some q

-- the pair o, d is a start
pub record Begins (st : List ℕ) (o d : ℕ) : Type 0 where
  pub row : ℕ
  pub inside : 2 * row + 1 < length st
  pub offset : get_or st (2 * row) 0 ≡ o
  pub depth : get_or st (2 * row + 1) 0 ≡ d

-- the change c leads from the depth d to e, and e is in range
abbrev pub Leads : ℕ → Effect → ℕ → Type 0
Leads d c e = landing low_falling d (Ok (by c.up c.down)) ≡ Ok e

-- the fall-through depth: in range also where the instruction falls nowhere; where it falls, the next place has that
-- depth
pub record Falls (a : ℕ → Option ℕ) (f : Flow) (o d : ℕ) : Type 0 where
  pub depth : ℕ
  pub leads : Leads d f.net depth
  pub has : f.falls ≡ true → a (o + f.size) ≡ Some depth

-- the taken depth: in range, and the place that the jump goes to has it
pub record Jumps (a : ℕ → Option ℕ) (f : Flow) (d : ℕ) : Type 0 where
  pub target : ℕ
  pub depth : ℕ
  pub goes : f.goal ≡ To target
  pub leads : Leads d f.taken depth
  pub has : a target ≡ Some depth

-- an instruction given the depth d
pub record Kept (a : ℕ → Option ℕ) (f : Flow) (o d : ℕ) : Type 0 where
  pub falls : Falls a f o d
  pub jumps : (f.goal ≡ Nowhere → ⊥) → Jumps a f d

-- "An assignment gives places at most one depth each, 0 to 65,535. Each start has its depth. For every instruction
-- with a depth, .." (R49)
pub record Assigns (last : ℕ) (s st : List ℕ) (a : ℕ → Option ℕ) : Type 0 where
  pub places : (o d : ℕ) → a o ≡ Some d → Place last s o × (d ≤ deepest)
  pub starts : (o d : ℕ) → Begins st o d → a o ≡ Some d
  pub kept : (o d : ℕ) (f : Flow) → a o ≡ Some d → Stands last s o f → Kept a f o d

-- "the smallest one, which is part of every other" (R50)
pub record Smallest (last : ℕ) (s st : List ℕ) (a : ℕ → Option ℕ) : Type 0 where
  pub assigns : Assigns last s st a
  pub least : (b : ℕ → Option ℕ) → Assigns last s st b → (o d : ℕ) → a o ≡ Some d → b o ≡ Some d

-- no assignment exists
abbrev pub Impossible : ℕ → List ℕ → List ℕ → Type 0
Impossible last s st = (a : ℕ → Option ℕ) → Assigns last s st a → ⊥

-- fall-throughs and taken jumps lead from a start to o, with the depth d there
pub data Derived (last : ℕ) (s st : List ℕ) : ℕ → ℕ → Type 0 where
  start : {o d : ℕ} → Begins st o d → Derived last s st o d
  fall : {o d q e : ℕ} {f : Flow} → Derived last s st o d → Stands last s o f → f.falls ≡ true → Leads d f.net e
      → o + f.size ≡ q → Derived last s st q e
  jump : {o d q e : ℕ} {f : Flow} → Derived last s st o d → Stands last s o f → f.goal ≡ To q → Leads d f.taken e
      → Derived last s st q e

-- numbers in rising order, the first at least n
abbrev pub Rising : ℕ → List ℕ → Type 0
Rising n [] = Unit {0}
Rising n (x ∷ xs) = (n ≤ x) × Rising (suc x) xs

-- "counts the instructions that have a depth": the instruction starts with a depth, each once, are k (R51)
pub record Counts (last : ℕ) (s : List ℕ) (a : ℕ → Option ℕ) (k : ℕ) : Type 0 where
  pub starts : List ℕ
  pub rising : Rising 0 starts
  pub each : (o : ℕ) → Memᴰ o starts → (f : Flow) × (d : ℕ) × Place last s o × Stands last s o f × (a o ≡ Some d)
  pub all : (o d : ℕ) (f : Flow) → Place last s o → Stands last s o f → a o ≡ Some d → Memᴰ o starts
  pub count : k ≡ length starts
