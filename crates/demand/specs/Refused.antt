-- Demand 1. "a refused builder call changes neither state nor tables"
-- Assumes nothing.
use Rattle.std.specs.Prelude.{◌≡◌, Err, Option, ℕ}
use contract.Lifetimes.{Lfts}
use Rattle.op.specs.declared.Refusal.{Refusal}
use Rattle.builder.proofs.Builder.new.Reads.{Learnt as new_says}
use Rattle.demand.specs.History.{no}
use Rattle.demand.specs.Calls.{PublicCall}
use Rattle.demand.specs.World.{World, Slice, Made}

-- of every call on a builder (R26, R57)
abbrev pub RefusedSame : Type 0
RefusedSame = (c : PublicCall) (w w' : World) (r : Refusal) → Made c w (no r) w' → w' ≡ w

-- of `new`, which hands out no state and is lent the starts alone (R26)
abbrev pub NewRefused : Type 0
NewRefused =
    (told : Option ℕ) (κs : Lfts 1) (entry exit : Slice) (r : Refusal) → new_says κs (told, (entry, tt)) (Err r) (told, (exit, tt))
    → exit.now ≡ entry.now
