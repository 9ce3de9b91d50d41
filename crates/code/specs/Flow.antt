-- How the instruction at an offset moves on: R9, R10, R19.
-- Assumes nothing.
use Rattle.code.specs.Decode.{Step}
use Rattle.op.specs.declared.Effect.{Effect}
use Rattle.op.specs.declared.Refusal.{Refusal}
use Rattle.std.specs.Prelude.{cond, not, List, ℕ, suc, ◌+◌, ◌-◌, leb, ℤ, pos, negsuc, length, Ok, Err, Some, None, Result, Option}
use Rattle.op.specs.Effects.{effect_of, taken_of, dead_maker}
use Rattle.op.specs.declared.Operand.{Operand}
use Rattle.op.specs.declared.Operand.TheVariants as O
use Rattle.code.specs.declared.Flow.{Flow}
use Rattle.code.specs.declared.Goal.{Goal}
use Rattle.code.specs.declared.Goal.TheVariants.{Nowhere, To, Outside}
use Rattle.code.specs.Decode.{decode}

-- next + z, where that is an offset of code of so many bytes, or its end
unfoldable pub goal_by : ℕ → ℕ → ℤ → Goal
goal_by next end (pos n) = cond (leb (next + n) end) (To (next + n)) Outside
goal_by next end (negsuc n) = cond (leb (suc n) next) (To (next - suc n)) Outside

-- where an operand leads from the instruction before `next`
abbrev pub goal_of : ℕ → ℕ → Operand → Goal
goal_of next end O.None = Nowhere
goal_of next end (O.U8 a) = Nowhere
goal_of next end (O.I8 z) = Nowhere
goal_of next end (O.U16 a) = Nowhere
goal_of next end (O.Offset z) = goal_by next end z
goal_of next end (O.U8U8 a b) = Nowhere
goal_of next end (O.U16U8 a b) = Nowhere
goal_of next end (O.U16U16 a b) = Nowhere
goal_of next end (O.U16U8U8 a b c) = Nowhere
goal_of next end (O.CallKw positional names) = Nowhere
goal_of next end (O.CallAttrKw attribute positional names) = Nowhere
goal_of next end (O.U16U16U8 a b c) = Nowhere

-- what an effect adds and takes away; nothing where it is refused
abbrev pub change_of : Result Effect Refusal → Effect
change_of (Ok effect) = effect
change_of (Err r) = record { up = 0; down = 0 }

-- an instruction before `next`, in code of `end` bytes
abbrev pub flow_by : ℕ → ℕ → ℕ → Operand → ℕ → Flow
flow_by next end k o size = record {
  size = size;
  net = change_of (effect_of k o);
  taken = change_of (taken_of k);
  goal = goal_of next end o;
  falls = not (dead_maker k);
}

-- how the instruction at an offset moves on, nothing at or past the code's end, or a fault
abbrev pub Flowing : Type 0
Flowing = Result (Option Flow) Refusal

-- "its target less the offset of its opcode less 3"
abbrev pub flowing_by : ℕ → ℕ → Step → Flowing
flowing_by at end (Ok (Some i)) = Ok (Some (flow_by (at + 3) end i.opcode i.operand i.size))
flowing_by at end (Ok None) = Ok None
flowing_by at end (Err r) = Err r

-- the same of u, the code from an offset on, under a table that ends with the opcode `last` (R19)
unfoldable pub flow_of : ℕ → ℕ → List ℕ → Flowing
flow_of last at u = flowing_by at (at + length u) (decode last at u)
