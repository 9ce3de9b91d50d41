-- `builder::Builder::register_local_names` meets its contract: its tests are the definition's, and the names stand at
-- the front.
-- Assumes nothing.
use Rattle.code.proofs.Putting.{put_front}
use Rattle.builder.specs.State.{kept}
use Rattle.builder.specs.Names.{register_names_of}
use borrow.Author.Tests.{eq-eqb, le-leb, lt-leb, ne_eqb}
use mathlib.Core.Path.{ap}
use Rattle.builder.proofs.Builder.register_local_names.Goals as goal

pub returns-then-core-gt-CODE_LIMIT : goal.returns-then-core-gt-CODE_LIMIT
unfolding register_names_of
returns-then-core-gt-CODE_LIMIT c = simp (lt-leb _ _ c.if-core-gt-CODE_LIMIT.true)

pub returns-then-table-held : goal.returns-then-table-held
unfolding register_names_of
returns-then-table-held c = simp (le-leb _ _ c.if-core-gt-CODE_LIMIT.false, lt-leb _ _ c.if-table-held.true)

pub returns-then-held-ne0 : goal.returns-then-held-ne0
unfolding register_names_of
returns-then-held-ne0 c = simp (le-leb _ _ c.if-core-gt-CODE_LIMIT.false, le-leb _ _ c.if-table-held.false, ne_eqb _ _ c.if-held-ne0.true)

pub returns-then-table-names : goal.returns-then-table-names
unfolding register_names_of
returns-then-table-names c =
    simp (
      le-leb _ _ c.if-core-gt-CODE_LIMIT.false,
      le-leb _ _ c.if-table-held.false,
      eq-eqb _ _ c.if-held-ne0.false,
      lt-leb _ _ c.if-table-names.true,
    )

pub returns : goal.returns
unfolding register_names_of
returns c =
    let a = c.args in
    rw (
      le-leb _ _ c.if-core-gt-CODE_LIMIT.false,
      le-leb _ _ c.if-table-held.false,
      eq-eqb _ _ c.if-held-ne0.false,
      le-leb _ _ c.if-table-names.false,
      c.fill_names.ensures,
    )
    (ap (kept _) (put_front _ a.table.now))
