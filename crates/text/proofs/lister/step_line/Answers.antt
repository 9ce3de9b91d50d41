-- `text::lister::step_line` meets its contract, by the cases of the step.
-- Assumes nothing.
use mathlib.Core.Path.{◌≡◌, sym, ap, ◌∙◌}
use mathlib.Core.List.{List, ◌++◌}
use Prim.Native.Nat.{ℕ}
use native.Mathlib.Omega.{arith}
use lib.ListN.{drop}
use Rattle.std.specs.Prelude.{Option, Ok, Some}
use Rattle.code.specs.Decode.{Step}
use Rattle.code.specs.declared.Instr.{Instr}
use Rattle.code.proofs.Decoding.{decoded_ends}
use Rattle.text.specs.Fields.{line_text}
use Rattle.text.proofs.Bounds.{lean}
use Rattle.text.proofs.Lining.{found}
use Rattle.text.proofs.Progressing.{line_placed, fault_placed}
use Rattle.text.proofs.Putting.{same_places}
use Rattle.text.proofs.lister.step_line.Goals as goal

-- what stands at the place, of which the code sees the step
stands : {at step : Step} {found : Option Instr} {i : Instr} → step ≡ at → step ≡ Ok found → found ≡ Some i
    → at ≡ Ok (Some i)
stands a s f = sym a ∙ s ∙ ap (λ (x : Option Instr). Ok x) f

pub line-placed-requires : goal.line-placed-requires
line-placed-requires c =
    let i = c.in-Some.instr in (
      lean c.args.at i.operand c.args.code.now
          (found c.args.code.now c.args.at i.opcode i.operand i.size c.requires.0.small (stands c.requires.0.is c.in-Ok.is c.in-Some.is))
          (λ j. omega (arith, c.type_inv.code j)),
      c.requires.1.short,
    )

pub overflow_add-at : goal.overflow_add-at
overflow_add-at c =
    let i = c.in-Some.instr in
    omega (
      arith,
      decoded_ends _ c.args.at c.args.code.now i.opcode i.operand i.size (stands c.requires.0.is c.in-Ok.is c.in-Some.is),
      c.requires.0.small,
    )

pub returns-in-Some : goal.returns-in-Some
returns-in-Some c =
    let i = c.in-Some.instr in
    rw (c.in-Ok.is, c.in-Some.is, c.went.ensures)
    (line_placed c.args.code.now c.args.at c.args.front.now c.args.out.now
    c.args.to i.opcode i.operand i.size (stands c.requires.0.is c.in-Ok.is c.in-Some.is)
    (same_places (ap (λ (n : List ℕ). c.args.front.now ++ line_text c.args.at n
    i.operand (drop c.args.at c.args.code.now))
    c.of-name.ensures)
    c.line-placed.ensures))

pub returns-in-Err : goal.returns-in-Err
returns-in-Err c =
    rw (c.in-Err.is, c.went-in-Err.ensures)
    (fault_placed c.args.code.now c.args.at c.args.front.now c.args.out.now
    c.args.to c.in-Err.refusal (sym c.requires.0.is ∙ c.in-Err.is)
    c.fault-placed.ensures)
