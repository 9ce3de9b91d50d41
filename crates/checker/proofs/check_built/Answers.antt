-- `checker::check_built` meets its contract: the test is 19's, and sound counts are within what is lent.
-- Assumes nothing.
use mathlib.Core.Bool.{true}
use mathlib.Core.Path.{◌≡◌, ◌∙◌, sym}
use native.Mathlib.Omega.{arith}
use lib.ListN.{length}
use lib.Seq.{length-take-le}
use Rattle.checker.specs.Promise.{built_sound}
use Rattle.checker.proofs.Promising.{built_unsound, built_within, built_used}
use Rattle.checker.proofs.check_built.Goals as goal

pub returns-then-not-built_sound : goal.returns-then-not-built_sound
returns-then-not-built_sound c =
    built_unsound c.args.built c.args.code.now c.args.starts.now c.args.depths.now
    c.args.work.now (sym c.built_sound.ensures ∙ c.if-not-built_sound.true)

pub overflow_mul-m : goal.overflow_mul-m
overflow_mul-m c =
    let sound : let a = c.args in
    built_sound a.built (length a.code.now) (length a.starts.now) ≡ true = sym c.built_sound.ensures ∙ c.if-not-built_sound.false in
    omega (arith, (built_within _ _ _ sound).1)

pub slice_bounds-check-end : goal.slice_bounds-check-end
slice_bounds-check-end c =
    let sound : let a = c.args in
    built_sound a.built (length a.code.now) (length a.starts.now) ≡ true = sym c.built_sound.ensures ∙ c.if-not-built_sound.false in
    sym (length-take-le _ _ (omega (arith, (built_within _ _ _ sound).0)))

pub slice_bounds-check-end-2 : goal.slice_bounds-check-end-2
slice_bounds-check-end-2 c =
    let sound : let a = c.args in
    built_sound a.built (length a.code.now) (length a.starts.now) ≡ true = sym c.built_sound.ensures ∙ c.if-not-built_sound.false in
    sym (length-take-le _ _ (omega (arith, (built_within _ _ _ sound).1)))

pub returns : goal.returns
returns c =
    let sound : let a = c.args in
    built_sound a.built (length a.code.now) (length a.starts.now) ≡ true = sym c.built_sound.ensures ∙ c.if-not-built_sound.false in
    built_used c.args.built c.args.code.now c.args.starts.now c.args.depths.now
    c.args.work.now sound c.check.new.depths c.check.new.work
    c.check.result c.check.ensures
