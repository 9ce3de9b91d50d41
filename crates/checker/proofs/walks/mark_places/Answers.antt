-- `checker::walks::mark_places` meets its contract: the loop's invariant: `at` is a place, and the places before it,
-- and only places, are marked.
-- Assumes nothing.
use Rattle.std.specs.Prelude.{Result}
use mathlib.Core.Path.{refl, sym, subst}
use native.Mathlib.Omega.{arith}
use lib.ListN.{set}
use Rattle.op.specs.Opcodes.{last_opcode}
use Rattle.op.specs.declared.Refusal.{Refusal}
use Rattle.checker.specs.Inner.{place_mark, Sized, Walked}
use Rattle.checker.proofs.Walking.{sized_in_code, sized_in, marking_none, marking_on, walked}
use Rattle.checker.proofs.walks.mark_places.Goals as goal

pub loop-at-init : goal.loop-at-init
loop-at-init c = marking_none c.requires.0 c.requires.1

pub returns-then-size-eq0 : goal.returns-then-size-eq0
returns-then-size-eq0 c =
    subst (λ (x : Result (Unit {0}) Refusal). Walked last_opcode c.args.code.now
    (set c.loop-at.work c.loop-at.at place_mark) x) (sym c.stop.ensures)
    (walked c.loop-at.invariant (subst (Sized last_opcode c.args.code.now c.loop-at.at)
    c.if-size-eq0.true (sized_in_code c.size_at-size.ensures)) _ refl)

pub overflow_add-at : goal.overflow_add-at
overflow_add-at c = omega (arith, sized_in (sized_in_code c.size_at-size.ensures) c.if-size-eq0.false)

pub loop-at-smaller : goal.loop-at-smaller
loop-at-smaller c = omega (arith, sized_in (sized_in_code c.size_at-size.ensures) c.if-size-eq0.false)

pub loop-at-preserved : goal.loop-at-preserved
loop-at-preserved c = marking_on c.loop-at.invariant (sized_in_code c.size_at-size.ensures) c.if-size-eq0.false
