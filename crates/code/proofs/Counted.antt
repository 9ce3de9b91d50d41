-- Counting the instructions of a code: what a loop knows after n of them.
-- Assumes nothing.
use Rattle.code.specs.declared.Stopped.{Stopped}
use Rattle.code.specs.Decode.{instr}
use Rattle.std.specs.Prelude.{Ok, Err, Some, None, Result, Option}
use mathlib.Core.Path.{◌≡◌, refl, sym, ap, ◌∙◌}
use mathlib.Core.List.{List}
use Prim.Native.Nat.{ℕ, suc, ◌+◌, ◌≤◌}
use native.Mathlib.Nat.{zero-add, add-zero}
use native.Mathlib.Omega.{arith}
use lib.ListN.{length, drop}
use Rattle.op.specs.declared.Operand.{Operand}
use Rattle.op.specs.declared.Refusal.{Refusal}
use Rattle.code.specs.Decode.{decode}
use Rattle.code.specs.Reading.{Read, stops_at, count_by, count_of}
use Rattle.code.proofs.Decoding.{decoded_ends}
use Rattle.code.proofs.Instructions.{read_from, reads_on, reads_end, reads_fault}

-- n instructions in front of what was read
abbrev counted : ℕ → Read → Result ℕ Stopped
counted n read = count_by (n + length read.spots) read.fault

-- n instructions end at `at`, and what is left is counted from there
pub record Counting (last : ℕ) (s : List ℕ) (at n : ℕ) : Type 0 where
  pub inside : at ≤ length s
  pub few : n ≤ at
  pub so_far : count_of last s ≡ counted n (read_from last s at)

pub counting_none : (last : ℕ) (s : List ℕ) → Counting last s 0 0
unfolding count_of
counting_none last s =
    let read = read_from last s 0 in
    record {
      inside = omega arith;
      few = omega arith;
      so_far = ap (λ (n : ℕ). count_by n read.fault) (sym (zero-add (length read.spots)));
    }

-- behind an instruction
pub counting_on : (last : ℕ) (s : List ℕ) (at n k : ℕ) (o : Operand) (z : ℕ) → Counting last s at n
    → decode last at (drop at s) ≡ Ok (Some (instr k o z)) → Counting last s (at + z) (n + 1)
counting_on last s at n k o z c e =
    let ends = decoded_ends last at s k o z e in
    let more = read_from last s (at + z) in
    let one_on : n + suc (length more.spots) ≡ n + 1 + length more.spots = omega arith in
    record {
      inside = ends.1;
      few = omega (arith, c.few, ends.0);
      so_far = c.so_far ∙ ap (counted n) (reads_on last s at k o z e) ∙ ap (λ (m : ℕ). count_by m more.fault) one_on;
    }

stop_here : (last : ℕ) (s : List ℕ) (at n : ℕ) (fault : Option Refusal) → Counting last s at n
    → read_from last s at ≡ stops_at at fault → count_by n fault ≡ count_of last s
stop_here last s at n fault c e =
    ap (λ (m : ℕ). count_by m fault) (sym (add-zero n)) ∙ sym (c.so_far ∙ ap (counted n) e)

-- at the end
pub counting_end : (last : ℕ) (s : List ℕ) (at n : ℕ) → Counting last s at n → decode last at (drop at s) ≡ Ok None
    → Ok n ≡ count_of last s
counting_end last s at n c e = stop_here last s at n None c (reads_end last s at e)

-- at a fault
pub counting_fault : (last : ℕ) (s : List ℕ) (at n : ℕ) (r : Refusal) → Counting last s at n
    → decode last at (drop at s) ≡ Err r → Err (record { count = n; refusal = r }) ≡ count_of last s
counting_fault last s at n r c e = stop_here last s at n (Some r) c (reads_fault last s at r e)
