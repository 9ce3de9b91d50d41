-- `builder::Builder::build` meets its contract: its tests are the definition's, and the lent part comes back filled.
-- Assumes nothing.
use Rattle.builder.specs.Names.{build_of}
use borrow.Author.Tests.{le-leb, lt-leb}
use lib.Seq.{length-take-le}
use mathlib.Core.Path.{◌∙◌, refl, sym}
use native.Mathlib.Omega.{arith}
use Rattle.builder.proofs.Builder.build.Goals as goal

pub returns-then-core-gt-CODE_LIMIT : goal.returns-then-core-gt-CODE_LIMIT
unfolding build_of
returns-then-core-gt-CODE_LIMIT c = simp (lt-leb _ _ c.if-core-gt-CODE_LIMIT.true)

pub returns-then-names-held : goal.returns-then-names-held
unfolding build_of
returns-then-names-held c = simp (le-leb _ _ c.if-core-gt-CODE_LIMIT.false, lt-leb _ _ c.if-names-held.true)

pub returns-then-marks-core : goal.returns-then-marks-core
unfolding build_of
returns-then-marks-core c = simp (le-leb _ _ c.if-core-gt-CODE_LIMIT.false, le-leb _ _ c.if-names-held.false, lt-leb _ _ c.if-marks-core.true)

pub returns-then-any_open : goal.returns-then-any_open
unfolding build_of
returns-then-any_open c =
    simp (
      le-leb _ _ c.if-core-gt-CODE_LIMIT.false,
      le-leb _ _ c.if-names-held.false,
      le-leb _ _ c.if-marks-core.false,
      sym c.any_open.ensures ∙ c.if-any_open.true,
    )

pub slice_bounds-fill_absent-end-2 : goal.slice_bounds-fill_absent-end-2
slice_bounds-fill_absent-end-2 c = sym (length-take-le c.args.self.names c.args.names.now (omega (arith, c.if-names-held.false)))

pub returns : goal.returns
unfolding build_of
returns c =
    rw (
      le-leb _ _ c.if-core-gt-CODE_LIMIT.false,
      le-leb _ _ c.if-names-held.false,
      le-leb _ _ c.if-marks-core.false,
      sym c.any_open.ensures ∙ c.if-any_open.false,
      c.fill_absent.ensures,
    ) refl
