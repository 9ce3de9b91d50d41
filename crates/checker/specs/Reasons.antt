-- Why no assignment of depths exists: what `explain` names beside 23. Each reason is one that R49 excludes, of depths
-- that are derived from the starts. `last` is the last opcode of the table, s the code, st the starts.
-- Assumes nothing.
use Rattle.op.specs.declared.Effect.{Effect}
use Rattle.std.specs.Prelude.{◌≡◌, List, ℕ, Ok, Err, Result}
use Rattle.op.specs.declared.Refusal.{Refusal}
use Rattle.op.specs.declared.Refusal.TheVariants.{NoDepths}
use Rattle.code.specs.declared.Flow.{Flow}
use Rattle.code.specs.declared.Goal.TheVariants.{Nowhere, To}
use Rattle.code.specs.Depths.{Stands, Place, Leads, Derived}
use Rattle.checker.specs.declared.Assignment.{Assignment}
use Rattle.checker.specs.declared.Reason.{Reason}
use Rattle.checker.specs.declared.Reason.TheVariants.{TwoDepths, NetOutOfRange, TakenOutOfRange, NoPlace}
use Rattle.checker.specs.declared.Unmet.{Unmet}
use Rattle.checker.specs.declared.Unmet.TheVariants.{Refused, Unsolved}
use Rattle.checker.specs.Promise.{Promise}

-- the place o is brought two depths
pub record Brought (last : ℕ) (s st : List ℕ) (o d e : ℕ) : Type 0 where
  pub place : Place last s o
  pub one : Derived last s st o d
  pub other : Derived last s st o e
  pub differ : d ≡ e → ⊥

-- the instruction at the place o is brought the depth d, and has the fault P
pub record Fails (last : ℕ) (s st : List ℕ) (o d : ℕ) (P : Flow → Type 0) : Type 0 where
  pub place : Place last s o
  pub flow : Flow
  pub stands : Stands last s o flow
  pub derived : Derived last s st o d
  pub fault : P flow

-- the change leads to no depth in range
abbrev pub Leaves : ℕ → Effect → Type 0
Leaves d change = (e : ℕ) → Leads d change e → ⊥

-- it is a jump, and its target is no place
pub record Misses (last : ℕ) (s : List ℕ) (f : Flow) : Type 0 where
  pub jumps : f.goal ≡ Nowhere → ⊥
  pub astray : (t : ℕ) → f.goal ≡ To t → Place last s t → ⊥

-- it is a jump, and its taken depth is out of range
pub record LeavesTaken (d : ℕ) (f : Flow) : Type 0 where
  pub jumps : f.goal ≡ Nowhere → ⊥
  pub leaves : Leaves d f.taken

-- what a reason says
abbrev pub Because : ℕ → List ℕ → List ℕ → Reason → Type 0
Because last s st (TwoDepths place one other) = Brought last s st place one other
Because last s st (NetOutOfRange at depth) = Fails last s st at depth (λ f. Leaves depth f.net)
Because last s st (TakenOutOfRange at depth) = Fails last s st at depth (LeavesTaken depth)
Because last s st (NoPlace at depth) = Fails last s st at depth (Misses last s)

-- the answer without the reason
abbrev pub answer_of : Result Assignment Unmet → Result Assignment Refusal
answer_of (Ok a) = Ok a
answer_of (Err (Refused q)) = Err q
answer_of (Err (Unsolved why)) = Err NoDepths

-- 23 comes with a reason that holds
abbrev pub Reasoned : ℕ → List ℕ → List ℕ → Result Assignment Unmet → Type 0
Reasoned last s st (Ok a) = Unit {0}
Reasoned last s st (Err (Refused q)) = q ≡ NoDepths → ⊥
Reasoned last s st (Err (Unsolved why)) = Because last s st why

-- "`explain` answers and leaves what `check` does, and with 23 it names a reason" (R74)
pub record Explains (last : ℕ) (s st d d' w w' : List ℕ) (r : Result Assignment Unmet) : Type 0 where
  pub promise : Promise last s st d d' w w' (answer_of r)
  pub reasoned : Reasoned last s st r
