-- `readback::lines::fill` meets its contract: what is read of the lines is what was stored so far, and what is
-- read of the lines left. The measure is the bytes left.
-- Assumes nothing.
use mathlib.Core.Path.{◌≡◌, refl, sym, ap, ◌∙◌, subst}
use Prim.Native.Nat.{ℕ, ◌+◌, ◌-◌, ◌<◌}
use native.Mathlib.Omega.{arith}
use lib.ListN.{length, take, drop, length-drop}
use lib.Seq.{length-take-le}
use borrow.Author.Rules.{rules}
use borrow.Rule.Slice.PartMut.{put_mid}
use Rattle.readback.specs.Formed.{Judged, judge}
use Rattle.readback.specs.Inner.{cut_at}
use Rattle.readback.specs.Lined.{Lays}
use Rattle.readback.proofs.Cutting.{rest_is}
use Rattle.readback.proofs.Turns.{Turned, turned_first, turned_end, turned_unended, turned_bad, turned_good}
use Rattle.readback.proofs.Turns.{line_judged}
use Rattle.readback.proofs.lines.fill.Goals as goal

pub loop-from-init : goal.loop-from-init
loop-from-init c = (turned_first c.args.body.now c.args.out.now, search rules)

pub shape_of-out-then-rest-end : goal.shape_of-out-then-rest-end
shape_of-out-then-rest-end c = omega (arith, c.loop-from.invariant.0.size)

pub returns-then-rest-end : goal.returns-then-rest-end
returns-then-rest-end c =
    let end_is : c.cut-end.result ≡ cut_at 10 (drop c.loop-from.from c.args.body.now) = c.cut-end.ensures ∙ ap (cut_at 10) (rest_is c.args.body.now c.loop-from.from) in
    let left_size : length (take (length c.args.body.now - c.loop-from.from) (drop c.loop-from.from c.args.body.now)) ≡ length (drop c.loop-from.from c.args.body.now) = ap length (rest_is c.args.body.now c.loop-from.from) in
    let state : Turned c.args.body.now (length c.args.out.now) c.loop-from.out c.loop-from.from c.loop-from.number c.loop-from.at = c.loop-from.invariant.0 in
    let l = c.loop-from in
    turned_unended c.args.body.now c.args.out.now c.loop-from.out c.loop-from.from l.number
    c.loop-from.at state l.out c.loop-from-test.true
    (omega (arith, end_is, left_size, c.if-rest-end.true))

pub slice_bounds-read-end : goal.slice_bounds-read-end
slice_bounds-read-end c =
    sym (length-take-le c.cut-end.result (take (length c.args.body.now - c.loop-from.from) (drop c.loop-from.from c.args.body.now))
    (omega (arith, c.if-rest-end.false)))

pub slice_bounds-read-start : goal.slice_bounds-read-start
slice_bounds-read-start c = omega (arith, c.loop-from.invariant.0.fits, c.loop-from.invariant.0.size)

pub read-answer-requires : goal.read-answer-requires
read-answer-requires c = (
  omega (arith, c.loop-from.invariant.0.fits, c.requires.0),
  omega (arith, c.loop-from.invariant.1, c.requires.1),
)

pub shape_of-out-in-Err : goal.shape_of-out-in-Err
shape_of-out-in-Err c = omega (arith, c.loop-from.invariant.0.size)

pub returns-in-Err : goal.returns-in-Err
returns-in-Err c =
    let end_is : c.cut-end.result ≡ cut_at 10 (drop c.loop-from.from c.args.body.now) = c.cut-end.ensures ∙ ap (cut_at 10) (rest_is c.args.body.now c.loop-from.from) in
    let left_size : length (take (length c.args.body.now - c.loop-from.from) (drop c.loop-from.from c.args.body.now)) ≡ length (drop c.loop-from.from c.args.body.now) = ap length (rest_is c.args.body.now c.loop-from.from) in
    let ended : cut_at 10 (drop c.loop-from.from c.args.body.now) < length (drop c.loop-from.from c.args.body.now) = omega (arith, end_is, left_size, c.if-rest-end.false) in
    let state : Turned c.args.body.now (length c.args.out.now) c.loop-from.out c.loop-from.from c.loop-from.number c.loop-from.at = c.loop-from.invariant.0 in
    let line_is : take c.cut-end.result (take (length c.args.body.now - c.loop-from.from) (drop c.loop-from.from c.args.body.now)) ≡ (take (cut_at 10 (drop c.loop-from.from c.args.body.now)) (drop c.loop-from.from c.args.body.now)) = ap (take c.cut-end.result) (rest_is c.args.body.now c.loop-from.from) ∙ ap (λ (n : ℕ). take n (drop c.loop-from.from c.args.body.now)) end_is in
    let judged : (Lays (judge c.loop-from.at (length c.args.out.now - c.loop-from.at) (take (cut_at 10 (drop c.loop-from.from c.args.body.now)) (drop c.loop-from.from c.args.body.now))) (take (length c.loop-from.out - c.loop-from.at) (drop c.loop-from.at c.loop-from.out)) c.read-answer.result c.read-answer.new.out) = let mid : length (take (length c.loop-from.out - c.loop-from.at) (drop c.loop-from.at c.loop-from.out)) ≡ length c.args.out.now - c.loop-from.at =
    length-take-le (length c.loop-from.out - c.loop-from.at) (drop c.loop-from.at c.loop-from.out) (omega (arith, length-drop c.loop-from.at c.loop-from.out))
    ∙ ap (λ (n : ℕ). n - c.loop-from.at) state.size in
    subst (λ (j : Judged). Lays j (take (length c.loop-from.out - c.loop-from.at) (drop c.loop-from.at c.loop-from.out)) c.read-answer.result c.read-answer.new.out)
    (line_judged c.loop-from.at (length (take (length c.loop-from.out - c.loop-from.at) (drop c.loop-from.at c.loop-from.out))) (length c.args.out.now - c.loop-from.at) _ (take (cut_at 10 (drop c.loop-from.from c.args.body.now)) (drop c.loop-from.from c.args.body.now)) mid line_is) c.read-answer.ensures in
    turned_bad c.args.body.now c.args.out.now c.loop-from.out c.loop-from.from c.loop-from.number c.loop-from.at state ended
    (judge c.loop-from.at (length c.args.out.now - c.loop-from.at) (take (cut_at 10 (drop c.loop-from.from c.args.body.now)) (drop c.loop-from.from c.args.body.now))) refl _ _
    (sym c.in-Err.is ∙ judged.answers)

pub overflow_add-at : goal.overflow_add-at
overflow_add-at c =
    let end_is : c.cut-end.result ≡ cut_at 10 (drop c.loop-from.from c.args.body.now) = c.cut-end.ensures ∙ ap (cut_at 10) (rest_is c.args.body.now c.loop-from.from) in
    let left_size : length (take (length c.args.body.now - c.loop-from.from) (drop c.loop-from.from c.args.body.now)) ≡ length (drop c.loop-from.from c.args.body.now) = ap length (rest_is c.args.body.now c.loop-from.from) in
    let ended : cut_at 10 (drop c.loop-from.from c.args.body.now) < length (drop c.loop-from.from c.args.body.now) = omega (arith, end_is, left_size, c.if-rest-end.false) in
    let state : Turned c.args.body.now (length c.args.out.now) c.loop-from.out c.loop-from.from c.loop-from.number c.loop-from.at = c.loop-from.invariant.0 in
    let line_is : take c.cut-end.result (take (length c.args.body.now - c.loop-from.from) (drop c.loop-from.from c.args.body.now)) ≡ (take (cut_at 10 (drop c.loop-from.from c.args.body.now)) (drop c.loop-from.from c.args.body.now)) = ap (take c.cut-end.result) (rest_is c.args.body.now c.loop-from.from) ∙ ap (λ (n : ℕ). take n (drop c.loop-from.from c.args.body.now)) end_is in
    let judged : (Lays (judge c.loop-from.at (length c.args.out.now - c.loop-from.at) (take (cut_at 10 (drop c.loop-from.from c.args.body.now)) (drop c.loop-from.from c.args.body.now))) (take (length c.loop-from.out - c.loop-from.at) (drop c.loop-from.at c.loop-from.out)) c.read-answer.result c.read-answer.new.out) = let mid : length (take (length c.loop-from.out - c.loop-from.at) (drop c.loop-from.at c.loop-from.out)) ≡ length c.args.out.now - c.loop-from.at =
    length-take-le (length c.loop-from.out - c.loop-from.at) (drop c.loop-from.at c.loop-from.out) (omega (arith, length-drop c.loop-from.at c.loop-from.out))
    ∙ ap (λ (n : ℕ). n - c.loop-from.at) state.size in
    subst (λ (j : Judged). Lays j (take (length c.loop-from.out - c.loop-from.at) (drop c.loop-from.at c.loop-from.out)) c.read-answer.result c.read-answer.new.out)
    (line_judged c.loop-from.at (length (take (length c.loop-from.out - c.loop-from.at) (drop c.loop-from.at c.loop-from.out))) (length c.args.out.now - c.loop-from.at) _ (take (cut_at 10 (drop c.loop-from.from c.args.body.now)) (drop c.loop-from.from c.args.body.now)) mid line_is) c.read-answer.ensures in
    let behind : (Turned c.args.body.now (length c.args.out.now) (put_mid c.loop-from.at (length c.loop-from.out - c.loop-from.at) c.loop-from.out c.read-answer.new.out)
    (c.loop-from.from + c.cut-end.result + 1) (c.loop-from.number + 1) (c.loop-from.at + c.in-Ok.size)) = turned_good c.args.body.now c.args.out.now c.loop-from.out c.loop-from.from c.loop-from.number c.loop-from.at state ended
    (judge c.loop-from.at (length c.args.out.now - c.loop-from.at) (take (cut_at 10 (drop c.loop-from.from c.args.body.now)) (drop c.loop-from.from c.args.body.now))) refl c.in-Ok.size c.cut-end.result
    c.read-answer.new.out
    (sym c.in-Ok.is ∙ judged.answers) judged.cells end_is in
    omega (arith, behind.fits, c.requires.0)

pub overflow_add-from : goal.overflow_add-from
overflow_add-from c =
    let end_is : c.cut-end.result ≡ cut_at 10 (drop c.loop-from.from c.args.body.now) = c.cut-end.ensures ∙ ap (cut_at 10) (rest_is c.args.body.now c.loop-from.from) in
    let left_size : length (take (length c.args.body.now - c.loop-from.from) (drop c.loop-from.from c.args.body.now)) ≡ length (drop c.loop-from.from c.args.body.now) = ap length (rest_is c.args.body.now c.loop-from.from) in
    let ended : cut_at 10 (drop c.loop-from.from c.args.body.now) < length (drop c.loop-from.from c.args.body.now) = omega (arith, end_is, left_size, c.if-rest-end.false) in
    let state : Turned c.args.body.now (length c.args.out.now) c.loop-from.out c.loop-from.from c.loop-from.number c.loop-from.at = c.loop-from.invariant.0 in
    let line_is : take c.cut-end.result (take (length c.args.body.now - c.loop-from.from) (drop c.loop-from.from c.args.body.now)) ≡ (take (cut_at 10 (drop c.loop-from.from c.args.body.now)) (drop c.loop-from.from c.args.body.now)) = ap (take c.cut-end.result) (rest_is c.args.body.now c.loop-from.from) ∙ ap (λ (n : ℕ). take n (drop c.loop-from.from c.args.body.now)) end_is in
    let judged : (Lays (judge c.loop-from.at (length c.args.out.now - c.loop-from.at) (take (cut_at 10 (drop c.loop-from.from c.args.body.now)) (drop c.loop-from.from c.args.body.now))) (take (length c.loop-from.out - c.loop-from.at) (drop c.loop-from.at c.loop-from.out)) c.read-answer.result c.read-answer.new.out) = let mid : length (take (length c.loop-from.out - c.loop-from.at) (drop c.loop-from.at c.loop-from.out)) ≡ length c.args.out.now - c.loop-from.at =
    length-take-le (length c.loop-from.out - c.loop-from.at) (drop c.loop-from.at c.loop-from.out) (omega (arith, length-drop c.loop-from.at c.loop-from.out))
    ∙ ap (λ (n : ℕ). n - c.loop-from.at) state.size in
    subst (λ (j : Judged). Lays j (take (length c.loop-from.out - c.loop-from.at) (drop c.loop-from.at c.loop-from.out)) c.read-answer.result c.read-answer.new.out)
    (line_judged c.loop-from.at (length (take (length c.loop-from.out - c.loop-from.at) (drop c.loop-from.at c.loop-from.out))) (length c.args.out.now - c.loop-from.at) _ (take (cut_at 10 (drop c.loop-from.from c.args.body.now)) (drop c.loop-from.from c.args.body.now)) mid line_is) c.read-answer.ensures in
    let behind : (Turned c.args.body.now (length c.args.out.now) (put_mid c.loop-from.at (length c.loop-from.out - c.loop-from.at) c.loop-from.out c.read-answer.new.out)
    (c.loop-from.from + c.cut-end.result + 1) (c.loop-from.number + 1) (c.loop-from.at + c.in-Ok.size)) = turned_good c.args.body.now c.args.out.now c.loop-from.out c.loop-from.from c.loop-from.number c.loop-from.at state ended
    (judge c.loop-from.at (length c.args.out.now - c.loop-from.at) (take (cut_at 10 (drop c.loop-from.from c.args.body.now)) (drop c.loop-from.from c.args.body.now))) refl c.in-Ok.size c.cut-end.result
    c.read-answer.new.out
    (sym c.in-Ok.is ∙ judged.answers) judged.cells end_is in
    omega (arith, behind.inside)

pub overflow_add-from-in-loop-from : goal.overflow_add-from-in-loop-from
overflow_add-from-in-loop-from c =
    let end_is : c.cut-end.result ≡ cut_at 10 (drop c.loop-from.from c.args.body.now) = c.cut-end.ensures ∙ ap (cut_at 10) (rest_is c.args.body.now c.loop-from.from) in
    let left_size : length (take (length c.args.body.now - c.loop-from.from) (drop c.loop-from.from c.args.body.now)) ≡ length (drop c.loop-from.from c.args.body.now) = ap length (rest_is c.args.body.now c.loop-from.from) in
    let ended : cut_at 10 (drop c.loop-from.from c.args.body.now) < length (drop c.loop-from.from c.args.body.now) = omega (arith, end_is, left_size, c.if-rest-end.false) in
    let state : Turned c.args.body.now (length c.args.out.now) c.loop-from.out c.loop-from.from c.loop-from.number c.loop-from.at = c.loop-from.invariant.0 in
    let line_is : take c.cut-end.result (take (length c.args.body.now - c.loop-from.from) (drop c.loop-from.from c.args.body.now)) ≡ (take (cut_at 10 (drop c.loop-from.from c.args.body.now)) (drop c.loop-from.from c.args.body.now)) = ap (take c.cut-end.result) (rest_is c.args.body.now c.loop-from.from) ∙ ap (λ (n : ℕ). take n (drop c.loop-from.from c.args.body.now)) end_is in
    let judged : (Lays (judge c.loop-from.at (length c.args.out.now - c.loop-from.at) (take (cut_at 10 (drop c.loop-from.from c.args.body.now)) (drop c.loop-from.from c.args.body.now))) (take (length c.loop-from.out - c.loop-from.at) (drop c.loop-from.at c.loop-from.out)) c.read-answer.result c.read-answer.new.out) = let mid : length (take (length c.loop-from.out - c.loop-from.at) (drop c.loop-from.at c.loop-from.out)) ≡ length c.args.out.now - c.loop-from.at =
    length-take-le (length c.loop-from.out - c.loop-from.at) (drop c.loop-from.at c.loop-from.out) (omega (arith, length-drop c.loop-from.at c.loop-from.out))
    ∙ ap (λ (n : ℕ). n - c.loop-from.at) state.size in
    subst (λ (j : Judged). Lays j (take (length c.loop-from.out - c.loop-from.at) (drop c.loop-from.at c.loop-from.out)) c.read-answer.result c.read-answer.new.out)
    (line_judged c.loop-from.at (length (take (length c.loop-from.out - c.loop-from.at) (drop c.loop-from.at c.loop-from.out))) (length c.args.out.now - c.loop-from.at) _ (take (cut_at 10 (drop c.loop-from.from c.args.body.now)) (drop c.loop-from.from c.args.body.now)) mid line_is) c.read-answer.ensures in
    let behind : (Turned c.args.body.now (length c.args.out.now) (put_mid c.loop-from.at (length c.loop-from.out - c.loop-from.at) c.loop-from.out c.read-answer.new.out)
    (c.loop-from.from + c.cut-end.result + 1) (c.loop-from.number + 1) (c.loop-from.at + c.in-Ok.size)) = turned_good c.args.body.now c.args.out.now c.loop-from.out c.loop-from.from c.loop-from.number c.loop-from.at state ended
    (judge c.loop-from.at (length c.args.out.now - c.loop-from.at) (take (cut_at 10 (drop c.loop-from.from c.args.body.now)) (drop c.loop-from.from c.args.body.now))) refl c.in-Ok.size c.cut-end.result
    c.read-answer.new.out
    (sym c.in-Ok.is ∙ judged.answers) judged.cells end_is in
    omega (arith, behind.inside)

pub overflow_add-number : goal.overflow_add-number
overflow_add-number c =
    let end_is : c.cut-end.result ≡ cut_at 10 (drop c.loop-from.from c.args.body.now) = c.cut-end.ensures ∙ ap (cut_at 10) (rest_is c.args.body.now c.loop-from.from) in
    let left_size : length (take (length c.args.body.now - c.loop-from.from) (drop c.loop-from.from c.args.body.now)) ≡ length (drop c.loop-from.from c.args.body.now) = ap length (rest_is c.args.body.now c.loop-from.from) in
    let ended : cut_at 10 (drop c.loop-from.from c.args.body.now) < length (drop c.loop-from.from c.args.body.now) = omega (arith, end_is, left_size, c.if-rest-end.false) in
    let state : Turned c.args.body.now (length c.args.out.now) c.loop-from.out c.loop-from.from c.loop-from.number c.loop-from.at = c.loop-from.invariant.0 in
    let line_is : take c.cut-end.result (take (length c.args.body.now - c.loop-from.from) (drop c.loop-from.from c.args.body.now)) ≡ (take (cut_at 10 (drop c.loop-from.from c.args.body.now)) (drop c.loop-from.from c.args.body.now)) = ap (take c.cut-end.result) (rest_is c.args.body.now c.loop-from.from) ∙ ap (λ (n : ℕ). take n (drop c.loop-from.from c.args.body.now)) end_is in
    let judged : (Lays (judge c.loop-from.at (length c.args.out.now - c.loop-from.at) (take (cut_at 10 (drop c.loop-from.from c.args.body.now)) (drop c.loop-from.from c.args.body.now))) (take (length c.loop-from.out - c.loop-from.at) (drop c.loop-from.at c.loop-from.out)) c.read-answer.result c.read-answer.new.out) = let mid : length (take (length c.loop-from.out - c.loop-from.at) (drop c.loop-from.at c.loop-from.out)) ≡ length c.args.out.now - c.loop-from.at =
    length-take-le (length c.loop-from.out - c.loop-from.at) (drop c.loop-from.at c.loop-from.out) (omega (arith, length-drop c.loop-from.at c.loop-from.out))
    ∙ ap (λ (n : ℕ). n - c.loop-from.at) state.size in
    subst (λ (j : Judged). Lays j (take (length c.loop-from.out - c.loop-from.at) (drop c.loop-from.at c.loop-from.out)) c.read-answer.result c.read-answer.new.out)
    (line_judged c.loop-from.at (length (take (length c.loop-from.out - c.loop-from.at) (drop c.loop-from.at c.loop-from.out))) (length c.args.out.now - c.loop-from.at) _ (take (cut_at 10 (drop c.loop-from.from c.args.body.now)) (drop c.loop-from.from c.args.body.now)) mid line_is) c.read-answer.ensures in
    let behind : (Turned c.args.body.now (length c.args.out.now) (put_mid c.loop-from.at (length c.loop-from.out - c.loop-from.at) c.loop-from.out c.read-answer.new.out)
    (c.loop-from.from + c.cut-end.result + 1) (c.loop-from.number + 1) (c.loop-from.at + c.in-Ok.size)) = turned_good c.args.body.now c.args.out.now c.loop-from.out c.loop-from.from c.loop-from.number c.loop-from.at state ended
    (judge c.loop-from.at (length c.args.out.now - c.loop-from.at) (take (cut_at 10 (drop c.loop-from.from c.args.body.now)) (drop c.loop-from.from c.args.body.now))) refl c.in-Ok.size c.cut-end.result
    c.read-answer.new.out
    (sym c.in-Ok.is ∙ judged.answers) judged.cells end_is in
    omega (arith, behind.number, behind.fits, c.requires.0)

pub loop-from-smaller : goal.loop-from-smaller
loop-from-smaller c =
    let end_is : c.cut-end.result ≡ cut_at 10 (drop c.loop-from.from c.args.body.now) = c.cut-end.ensures ∙ ap (cut_at 10) (rest_is c.args.body.now c.loop-from.from) in
    let left_size : length (take (length c.args.body.now - c.loop-from.from) (drop c.loop-from.from c.args.body.now)) ≡ length (drop c.loop-from.from c.args.body.now) = ap length (rest_is c.args.body.now c.loop-from.from) in
    let ended : cut_at 10 (drop c.loop-from.from c.args.body.now) < length (drop c.loop-from.from c.args.body.now) = omega (arith, end_is, left_size, c.if-rest-end.false) in
    let state : Turned c.args.body.now (length c.args.out.now) c.loop-from.out c.loop-from.from c.loop-from.number c.loop-from.at = c.loop-from.invariant.0 in
    let line_is : take c.cut-end.result (take (length c.args.body.now - c.loop-from.from) (drop c.loop-from.from c.args.body.now)) ≡ (take (cut_at 10 (drop c.loop-from.from c.args.body.now)) (drop c.loop-from.from c.args.body.now)) = ap (take c.cut-end.result) (rest_is c.args.body.now c.loop-from.from) ∙ ap (λ (n : ℕ). take n (drop c.loop-from.from c.args.body.now)) end_is in
    let judged : (Lays (judge c.loop-from.at (length c.args.out.now - c.loop-from.at) (take (cut_at 10 (drop c.loop-from.from c.args.body.now)) (drop c.loop-from.from c.args.body.now))) (take (length c.loop-from.out - c.loop-from.at) (drop c.loop-from.at c.loop-from.out)) c.read-answer.result c.read-answer.new.out) = let mid : length (take (length c.loop-from.out - c.loop-from.at) (drop c.loop-from.at c.loop-from.out)) ≡ length c.args.out.now - c.loop-from.at =
    length-take-le (length c.loop-from.out - c.loop-from.at) (drop c.loop-from.at c.loop-from.out) (omega (arith, length-drop c.loop-from.at c.loop-from.out))
    ∙ ap (λ (n : ℕ). n - c.loop-from.at) state.size in
    subst (λ (j : Judged). Lays j (take (length c.loop-from.out - c.loop-from.at) (drop c.loop-from.at c.loop-from.out)) c.read-answer.result c.read-answer.new.out)
    (line_judged c.loop-from.at (length (take (length c.loop-from.out - c.loop-from.at) (drop c.loop-from.at c.loop-from.out))) (length c.args.out.now - c.loop-from.at) _ (take (cut_at 10 (drop c.loop-from.from c.args.body.now)) (drop c.loop-from.from c.args.body.now)) mid line_is) c.read-answer.ensures in
    let behind : (Turned c.args.body.now (length c.args.out.now) (put_mid c.loop-from.at (length c.loop-from.out - c.loop-from.at) c.loop-from.out c.read-answer.new.out)
    (c.loop-from.from + c.cut-end.result + 1) (c.loop-from.number + 1) (c.loop-from.at + c.in-Ok.size)) = turned_good c.args.body.now c.args.out.now c.loop-from.out c.loop-from.from c.loop-from.number c.loop-from.at state ended
    (judge c.loop-from.at (length c.args.out.now - c.loop-from.at) (take (cut_at 10 (drop c.loop-from.from c.args.body.now)) (drop c.loop-from.from c.args.body.now))) refl c.in-Ok.size c.cut-end.result
    c.read-answer.new.out
    (sym c.in-Ok.is ∙ judged.answers) judged.cells end_is in
    omega (arith, behind.inside)

pub loop-from-preserved : goal.loop-from-preserved
loop-from-preserved c =
    let end_is : c.cut-end.result ≡ cut_at 10 (drop c.loop-from.from c.args.body.now) = c.cut-end.ensures ∙ ap (cut_at 10) (rest_is c.args.body.now c.loop-from.from) in
    let left_size : length (take (length c.args.body.now - c.loop-from.from) (drop c.loop-from.from c.args.body.now)) ≡ length (drop c.loop-from.from c.args.body.now) = ap length (rest_is c.args.body.now c.loop-from.from) in
    let ended : cut_at 10 (drop c.loop-from.from c.args.body.now) < length (drop c.loop-from.from c.args.body.now) = omega (arith, end_is, left_size, c.if-rest-end.false) in
    let state : Turned c.args.body.now (length c.args.out.now) c.loop-from.out c.loop-from.from c.loop-from.number c.loop-from.at = c.loop-from.invariant.0 in
    let line_is : take c.cut-end.result (take (length c.args.body.now - c.loop-from.from) (drop c.loop-from.from c.args.body.now)) ≡ (take (cut_at 10 (drop c.loop-from.from c.args.body.now)) (drop c.loop-from.from c.args.body.now)) = ap (take c.cut-end.result) (rest_is c.args.body.now c.loop-from.from) ∙ ap (λ (n : ℕ). take n (drop c.loop-from.from c.args.body.now)) end_is in
    let judged : (Lays (judge c.loop-from.at (length c.args.out.now - c.loop-from.at) (take (cut_at 10 (drop c.loop-from.from c.args.body.now)) (drop c.loop-from.from c.args.body.now))) (take (length c.loop-from.out - c.loop-from.at) (drop c.loop-from.at c.loop-from.out)) c.read-answer.result c.read-answer.new.out) = let mid : length (take (length c.loop-from.out - c.loop-from.at) (drop c.loop-from.at c.loop-from.out)) ≡ length c.args.out.now - c.loop-from.at =
    length-take-le (length c.loop-from.out - c.loop-from.at) (drop c.loop-from.at c.loop-from.out) (omega (arith, length-drop c.loop-from.at c.loop-from.out))
    ∙ ap (λ (n : ℕ). n - c.loop-from.at) state.size in
    subst (λ (j : Judged). Lays j (take (length c.loop-from.out - c.loop-from.at) (drop c.loop-from.at c.loop-from.out)) c.read-answer.result c.read-answer.new.out)
    (line_judged c.loop-from.at (length (take (length c.loop-from.out - c.loop-from.at) (drop c.loop-from.at c.loop-from.out))) (length c.args.out.now - c.loop-from.at) _ (take (cut_at 10 (drop c.loop-from.from c.args.body.now)) (drop c.loop-from.from c.args.body.now)) mid line_is) c.read-answer.ensures in
    let behind : (Turned c.args.body.now (length c.args.out.now) (put_mid c.loop-from.at (length c.loop-from.out - c.loop-from.at) c.loop-from.out c.read-answer.new.out)
    (c.loop-from.from + c.cut-end.result + 1) (c.loop-from.number + 1) (c.loop-from.at + c.in-Ok.size)) = turned_good c.args.body.now c.args.out.now c.loop-from.out c.loop-from.from c.loop-from.number c.loop-from.at state ended
    (judge c.loop-from.at (length c.args.out.now - c.loop-from.at) (take (cut_at 10 (drop c.loop-from.from c.args.body.now)) (drop c.loop-from.from c.args.body.now))) refl c.in-Ok.size c.cut-end.result
    c.read-answer.new.out
    (sym c.in-Ok.is ∙ judged.answers) judged.cells end_is in
    (behind, search rules)

pub shape_of-out : goal.shape_of-out
shape_of-out c = omega (arith, c.loop-from.invariant.0.size)

pub returns : goal.returns
returns c =
    let l = c.loop-from in
    turned_end c.args.body.now c.args.out.now l.out l.from l.number l.at l.invariant.0
    c.loop-from-test.false
