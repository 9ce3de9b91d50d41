-- `builder::Builder::register_local_name` meets its contract: its tests are the definition's; a held cell is set, or
-- the lent part comes back with the extension.
-- Assumes nothing.
use Prim.Native.Nat.{◌-◌}
use Rattle.builder.proofs.Naming.{extension_fits}
use Rattle.code.proofs.Putting.{put_lent}
use Rattle.builder.specs.Names.{extension, register_name_of}
use borrow.Author.Tests.{le-leb, le-ltb, lt-leb, lt-ltb}
use lib.ListN.{length}
use mathlib.Core.Path.{refl}
use Rattle.builder.proofs.Builder.register_local_name.Goals as goal

pub returns-then-core-gt-CODE_LIMIT : goal.returns-then-core-gt-CODE_LIMIT
unfolding register_name_of
returns-then-core-gt-CODE_LIMIT c = simp (lt-leb _ _ c.if-core-gt-CODE_LIMIT.true)

pub returns-then-table-held : goal.returns-then-table-held
unfolding register_name_of
returns-then-table-held c = simp (le-leb _ _ c.if-core-gt-CODE_LIMIT.false, lt-leb _ _ c.if-table-held.true)

pub returns-then-at-held : goal.returns-then-at-held
unfolding register_name_of
returns-then-at-held c =
    rw (
      le-leb _ _ c.if-core-gt-CODE_LIMIT.false,
      le-leb _ _ c.if-table-held.false,
      lt-ltb _ _ c.if-at-held.true,
      c.named_cell.ensures,
    ) refl

pub returns-then-table-at : goal.returns-then-table-at
unfolding register_name_of
returns-then-table-at c =
    simp (
      le-leb _ _ c.if-core-gt-CODE_LIMIT.false,
      le-leb _ _ c.if-table-held.false,
      le-ltb _ _ c.if-at-held.false,
      le-ltb _ _ c.if-table-at.true,
    )

pub returns : goal.returns
unfolding register_name_of
returns c =
    let a = c.args in
    let h = extension_fits a.slot a.self.names a.name (length a.table.now) c.if-at-held.false
    c.if-table-at.false in
    rw (
      le-leb _ _ c.if-core-gt-CODE_LIMIT.false,
      le-leb _ _ c.if-table-held.false,
      le-ltb _ _ c.if-at-held.false,
      lt-ltb _ _ c.if-table-at.false,
      c.extend.ensures,
      put_lent a.self.names (extension (a.slot - a.self.names) a.name) a.table.now h,
    ) refl
