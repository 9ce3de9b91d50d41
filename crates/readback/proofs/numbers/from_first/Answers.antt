-- `readback::numbers::from_first` meets its contract: the cells hold the numbers up to the place, and the others stand
-- behind it. The measure is the bytes left.
-- Assumes nothing.
use Rattle.std.proofs.lemmas.Grind.{common_steps}
use Rattle.std.specs.Prelude.{Some, None}
use Rattle.readback.specs.declared.numbers.Small.TheVariants as Z
use mathlib.Core.Path.{◌≡◌, sym, ap, ◌∙◌, subst}
use mathlib.Core.List.{List}
use Prim.Native.Nat.{ℕ, ◌+◌, ◌≤◌, ◌<◌}
use native.Mathlib.Omega.{arith}
use lib.Seq.{length-take-le}
use lib.ListN.{length, take, set, length-set, length-drop}
use borrow.Author.Rules.{rules}
use Rattle.text.specs.Reading.{read_whole}
use Rattle.readback.specs.Inner.{cut_at, small_of, Column}
use Rattle.readback.proofs.Columns.{column_first, rest_at, part_at, column_ends, column_on, column_not}
use Rattle.readback.proofs.Columns.{column_full}
use Rattle.readback.proofs.Cutting.{rest_is, cut_within}
use Rattle.readback.proofs.numbers.from_first.Goals as goal

pub bounds-cells-0 : goal.bounds-cells-0
bounds-cells-0 c = omega (arith, c.requires.room)

pub loop-at-init : goal.loop-at-init
loop-at-init c =
    let a = c.args in
    (column_first a.c.now a.end a.minus a.first a.cells.now c.requires, search rules)

pub returns-then-n-eq-MOST : goal.returns-then-n-eq-MOST
returns-then-n-eq-MOST c =
    let a = c.args in
    let l = c.loop-at in
    column_full a.c.now l.at l.n a.minus l.cells l.invariant.0 c.loop-at-test.true
    c.if-n-eq-MOST.true

pub slice_bounds-small_number-end : goal.slice_bounds-small_number-end
slice_bounds-small_number-end c =
    let end_is : c.cut-e.result ≡ cut_at 44 (rest_at c.args.c.now c.loop-at.at) = c.cut-e.ensures ∙ ap (cut_at 44) (rest_is c.args.c.now (c.loop-at.at + 1)) in
    let inside : c.loop-at.at + 1 + c.cut-e.result ≤ length c.args.c.now = let rest = rest_at c.args.c.now c.loop-at.at in
    omega (arith, end_is, cut_within 44 rest, length-drop (c.loop-at.at + 1) c.args.c.now, c.loop-at-test.true) in
    let rest = rest_at c.args.c.now c.loop-at.at in
    sym (length-take-le c.cut-e.result _
    (omega (
      arith,
      inside,
      length-drop (c.loop-at.at + 1) c.args.c.now,
      ap length (rest_is c.args.c.now (c.loop-at.at + 1)),
    )))

pub returns-in_err-number : goal.returns-in_err-number
returns-in_err-number c =
    let end_is : c.cut-e.result ≡ cut_at 44 (rest_at c.args.c.now c.loop-at.at) = c.cut-e.ensures ∙ ap (cut_at 44) (rest_is c.args.c.now (c.loop-at.at + 1)) in
    let number_is : c.small_number.result ≡ small_of (read_whole (part_at c.args.c.now c.loop-at.at)) = let rest = rest_at c.args.c.now c.loop-at.at in
    c.small_number.ensures
    ∙ ap (λ (l : List ℕ). small_of (read_whole (take c.cut-e.result l))) (rest_is c.args.c.now (c.loop-at.at + 1))
    ∙ ap (λ (n : ℕ). small_of (read_whole (take n rest))) end_is in
    let a = c.args in
    let l = c.loop-at in
    let none : c.from_residual.result ≡ None = grind (arith, common_steps) in
    rw none (
    column_not a.c.now l.at l.n a.minus l.cells l.invariant.0 c.loop-at-test.true
    (λ w e. let z : None ≡ Some (Z.Plus w) = sym c.in_err-number.was ∙ number_is ∙ e in cc))

pub returns-in_default : goal.returns-in_default
returns-in_default c =
    let end_is : c.cut-e.result ≡ cut_at 44 (rest_at c.args.c.now c.loop-at.at) = c.cut-e.ensures ∙ ap (cut_at 44) (rest_is c.args.c.now (c.loop-at.at + 1)) in
    let number_is : c.small_number.result ≡ small_of (read_whole (part_at c.args.c.now c.loop-at.at)) = let rest = rest_at c.args.c.now c.loop-at.at in
    c.small_number.ensures
    ∙ ap (λ (l : List ℕ). small_of (read_whole (take c.cut-e.result l))) (rest_is c.args.c.now (c.loop-at.at + 1))
    ∙ ap (λ (n : ℕ). small_of (read_whole (take n rest))) end_is in
    let a = c.args in
    let l = c.loop-at in
    column_not a.c.now l.at l.n a.minus l.cells l.invariant.0 c.loop-at-test.true
    (λ w e. let z : Some c.in_ok-number.number ≡ Some (Z.Plus w) = sym c.in_ok-number.was ∙ number_is ∙ e in c.in_default.not-Plus w (cc))

pub bounds-cells-n : goal.bounds-cells-n
bounds-cells-n c = omega (arith, c.loop-at.invariant.0.few, c.loop-at.invariant.0.room)

pub overflow_add-n : goal.overflow_add-n
overflow_add-n c = omega (arith, c.loop-at.invariant.0.few)

pub overflow_add-at : goal.overflow_add-at
overflow_add-at c =
    let end_is : c.cut-e.result ≡ cut_at 44 (rest_at c.args.c.now c.loop-at.at) = c.cut-e.ensures ∙ ap (cut_at 44) (rest_is c.args.c.now (c.loop-at.at + 1)) in
    let inside : c.loop-at.at + 1 + c.cut-e.result ≤ length c.args.c.now = let rest = rest_at c.args.c.now c.loop-at.at in
    omega (arith, end_is, cut_within 44 rest, length-drop (c.loop-at.at + 1) c.args.c.now, c.loop-at-test.true) in
    omega (arith, inside)

pub overflow_add-at-in-loop-at : goal.overflow_add-at-in-loop-at
overflow_add-at-in-loop-at c =
    let end_is : c.cut-e.result ≡ cut_at 44 (rest_at c.args.c.now c.loop-at.at) = c.cut-e.ensures ∙ ap (cut_at 44) (rest_is c.args.c.now (c.loop-at.at + 1)) in
    let inside : c.loop-at.at + 1 + c.cut-e.result ≤ length c.args.c.now = let rest = rest_at c.args.c.now c.loop-at.at in
    omega (arith, end_is, cut_within 44 rest, length-drop (c.loop-at.at + 1) c.args.c.now, c.loop-at-test.true) in
    omega (arith, inside)

pub loop-at-smaller : goal.loop-at-smaller
loop-at-smaller c =
    let end_is : c.cut-e.result ≡ cut_at 44 (rest_at c.args.c.now c.loop-at.at) = c.cut-e.ensures ∙ ap (cut_at 44) (rest_is c.args.c.now (c.loop-at.at + 1)) in
    let inside : c.loop-at.at + 1 + c.cut-e.result ≤ length c.args.c.now = let rest = rest_at c.args.c.now c.loop-at.at in
    omega (arith, end_is, cut_within 44 rest, length-drop (c.loop-at.at + 1) c.args.c.now, c.loop-at-test.true) in
    omega (arith, inside)

pub loop-at-preserved : goal.loop-at-preserved
loop-at-preserved c =
    let end_is : c.cut-e.result ≡ cut_at 44 (rest_at c.args.c.now c.loop-at.at) = c.cut-e.ensures ∙ ap (cut_at 44) (rest_is c.args.c.now (c.loop-at.at + 1)) in
    let number_is : c.small_number.result ≡ small_of (read_whole (part_at c.args.c.now c.loop-at.at)) = let rest = rest_at c.args.c.now c.loop-at.at in
    c.small_number.ensures
    ∙ ap (λ (l : List ℕ). small_of (read_whole (take c.cut-e.result l))) (rest_is c.args.c.now (c.loop-at.at + 1))
    ∙ ap (λ (n : ℕ). small_of (read_whole (take n rest))) end_is in
    let a = c.args in
    let l = c.loop-at in
    let w = c.in-Plus.w in
    let k = l.invariant.0 in
    let plus = sym number_is ∙ c.in_ok-number.was ∙ ap Some c.in-Plus.is in
    let few : l.n < 258 = omega (arith, k.few, c.if-n-eq-MOST.false) in (
      subst (λ (e : ℕ). Column a.c.now (l.at + 1 + e) (l.n + 1) a.minus (set l.cells l.n w))
          (sym end_is)
          (column_on a.c.now l.at l.n a.minus l.cells k c.loop-at-test.true w plus few),
      simp length-set (omega (arith, k.room, c.requires.room)),
    )

pub returns : goal.returns
returns c =
    let a = c.args in
    let l = c.loop-at in
    column_ends a.c.now l.at l.n a.minus l.cells l.invariant.0 c.loop-at-test.false
