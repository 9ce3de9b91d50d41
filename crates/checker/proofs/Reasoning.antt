-- A reason leaves no assignment, and a fault of the code is none.
-- Assumes nothing.
use Rattle.code.specs.Decode.{instr}
use Rattle.op.specs.declared.Shape.{Shape}
use Rattle.std.specs.Prelude.{Ok, Err, Some, Result}
use mathlib.Core.Path.{◌≡◌, ap, ◌∙◌}
use mathlib.Core.Bool.{Bool, true, false, cond}
use mathlib.Core.List.{List, [], ◌∷◌}
use mathlib.Core.Logic.{◌⊎◌, ⊎_elim, inl, inr}
use Prim.Native.Nat.{ℕ}
use lib.Dec.{leb}
use lib.ListN.{length, drop}
use Rattle.base.proofs.Bools.{clash}
use Rattle.op.specs.declared.Operand.{Operand}
use Rattle.op.specs.declared.Refusal.{Refusal}
use Rattle.op.specs.declared.Refusal.TheVariants.{NoDepths, UnknownOpcodeAt, CutShort}
use Rattle.code.specs.Decode.{size_by_names, whole, step_in, shape_up_to, decode}
use Rattle.code.specs.Depths.{Impossible, Faulty}
use Rattle.code.proofs.Assigning.{derived_in, clash_depths, clash_net}
use Rattle.code.proofs.Instructions.{read_from, read_ind}
use Rattle.checker.specs.declared.Reason.{Reason}
use Rattle.checker.specs.declared.Reason.TheVariants.{TwoDepths, NetOutOfRange, TakenOutOfRange, NoPlace}
use Rattle.checker.specs.Reasons.{Because}
use Rattle.checker.specs.Statements.{ReasonEnough}

pub because_impossible : {last : ℕ} {s st : List ℕ} (why : Reason) → Because last s st why → Impossible last s st
because_impossible (TwoDepths o d e) B = clash_depths B.one B.other B.differ
because_impossible (NetOutOfRange o d) B = clash_net B.derived B.stands B.fault
because_impossible (TakenOutOfRange o d) B = λ a A.
    let K = (A.kept o d B.flow (derived_in A B.derived) B.stands).jumps B.fault.jumps in
    B.fault.leaves K.depth K.leads
because_impossible (NoPlace o d) B = λ a A.
    let K = (A.kept o d B.flow (derived_in A B.derived) B.stands).jumps B.fault.jumps in
    B.fault.astray K.target K.goes (A.places K.target K.depth K.has).0

pub reason_enough : ReasonEnough
reason_enough last s st why B = because_impossible why B

-- a step refuses 1 or 22 alone, with an offset

abbrev pub OfReading : Refusal → Type 0
OfReading q = (o : ℕ) × ((q ≡ UnknownOpcodeAt o) ⊎ (q ≡ CutShort o))

step_is : (at k : ℕ) (o : Operand) (z : ℕ) (q : Refusal) (b : Bool)
    → cond b (Ok (Some (instr k o z))) (Err (CutShort at)) ≡ Err q → OfReading q
step_is at k o z q true e = clash cc
step_is at k o z q false e = (at, inr cc)

whole_is : (at : ℕ) (u : List ℕ) (q : Refusal) (x : Result Shape Refusal) → whole at x u ≡ Err q → OfReading q
unfolding step_in
whole_is at u q (Ok s) e = step_is at _ _ _ q (leb (size_by_names s u) (length u)) e
whole_is at u q (Err r) e = (at, inl cc)

decode_is : (last at : ℕ) (u : List ℕ) (q : Refusal) → decode last at u ≡ Err q → OfReading q
unfolding decode
decode_is last at [] q e = clash cc
decode_is last at (k ∷ u) q e = whole_is at (k ∷ u) q (shape_up_to last k) e

pub fault_is : {last : ℕ} {s : List ℕ} {q : Refusal} → Faulty last s q → OfReading q
fault_is {last} {s} {q} A = by_reading 0 A.is
  where
    by_reading : (at : ℕ) → (read_from last s at).fault ≡ Some q → OfReading q
    by_reading = read_ind last s (λ at read. read.fault ≡ Some q → OfReading q) (λ at k o z e later h. later h)
        (λ at e h. clash cc)
        (λ at r e h. decode_is last at (drop at s) q (let i : r ≡ q = cc in e ∙ ap Err i))

pub fault_not : {last : ℕ} {s : List ℕ} {q : Refusal} → Faulty last s q → q ≡ NoDepths → ⊥
fault_not {last} {s} {q} A e = ⊎_elim (λ i. clash cc) (λ i. clash cc) (fault_is A).1
