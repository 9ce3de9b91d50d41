-- `readback::numbers::read` meets its contract: the first number by its sign, or none that a field holds.
-- Assumes nothing.
use Rattle.readback.specs.declared.numbers.Small.TheVariants as Z
use Rattle.std.proofs.Common.{◌≡◌}
use Rattle.std.specs.Prelude.{Some}
use mathlib.Core.Path.{sym, ap, ◌∙◌}
use Prim.Native.Nat.{ℕ}
use native.Mathlib.Omega.{arith}
use lib.Seq.{length-take-le}
use lib.ListN.{take}
use Rattle.text.specs.Reading.{read_whole}
use Rattle.readback.specs.Inner.{small_of}
use Rattle.readback.proofs.Columns.{small_plus, small_minus, column_none}
use Rattle.readback.proofs.Cutting.{cut_within}
use Rattle.readback.proofs.numbers.read.Goals as goal

pub returns-then-is_dash : goal.returns-then-is_dash
returns-then-is_dash c = (omega arith, rw (sym c.is_dash.ensures ∙ c.if-is_dash.true))

pub slice_bounds-small_number-end : goal.slice_bounds-small_number-end
slice_bounds-small_number-end c =
    sym (length-take-le _ c.args.c.now
    (omega (arith, c.cut-e.ensures, cut_within 44 c.args.c.now)))

pub from_first-requires : goal.from_first-requires
from_first-requires c =
    let e : c.small_number-first.result ≡ Some c.in-Some-Plus.field-0 = c.in-Some-Plus.is in
    let f : c.in-Some-Plus.field-0 ≡ Z.Plus c.in-Some-Plus.w = rw c.in-Some-Plus.is at c.in-Some-Plus.field-0-is in
    record {
      room = c.requires;
      numbers = sym c.is_dash.ensures ∙ c.if-is_dash.false;
      ends = c.cut-e.ensures;
      is = small_plus _ _ (sym c.small_number-first.ensures ∙ e ∙ ap Some f);
    }

pub from_first-requires-in-Some-Minus : goal.from_first-requires-in-Some-Minus
from_first-requires-in-Some-Minus c =
    let e : c.small_number-first.result ≡ Some c.in-Some-Minus.field-0 = c.in-Some-Minus.is in
    let f : c.in-Some-Minus.field-0 ≡ Z.Minus c.in-Some-Minus.w = rw c.in-Some-Minus.is at c.in-Some-Minus.field-0-is in
    record {
      room = c.requires;
      numbers = sym c.is_dash.ensures ∙ c.if-is_dash.false;
      ends = c.cut-e.ensures;
      is = small_minus _ _ (sym c.small_number-first.ensures ∙ e ∙ ap Some f);
    }

pub returns-in-Some-Plus : goal.returns-in-Some-Plus
returns-in-Some-Plus c = c.from_first.ensures

pub returns-in-Some-Minus : goal.returns-in-Some-Minus
returns-in-Some-Minus c = c.from_first-in-Some-Minus.ensures

pub returns-in-None : goal.returns-in-None
returns-in-None c =
    let t = c.args.c.now in
    let is = sym c.in-None.is ∙ c.small_number-first.ensures
    ∙ ap (λ (n : ℕ). small_of (read_whole (take n t))) c.cut-e.ensures in
    column_none t c.args.cells.now c.requires (sym c.is_dash.ensures ∙ c.if-is_dash.false)
    (sym is)
