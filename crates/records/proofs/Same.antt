-- The lookup over records answers what the lookup over their flat rows does: of what each promises.
-- Assumes nothing.
use Rattle.code.specs.declared.HandlerRow.{HandlerRow}
use Rattle.std.specs.Prelude.{Option}
use Prim.Native.Nat.{ℕ}
use mathlib.Core.List.{List}
use mathlib.Core.Path.{◌≡◌, sym, ap, ◌∙◌}
use Rattle.code.proofs.Joined.{records_flat}
use Rattle.code.specs.Entries.{find_from, table_of, flat_answer}
use Rattle.code.specs.Lookups.{handler_of}
use Rattle.code.specs.declared.ExceptionEntry.{ExceptionEntry}

pub same_answer : (es : List ExceptionEntry) (x : ℕ) (r : Option (ℕ × ExceptionEntry)) (h : Option (ℕ × HandlerRow)) → r ≡ find_from es x 0
    → h ≡ handler_of (table_of es) x → h ≡ flat_answer r
same_answer es x r h e f = f ∙ records_flat es x ∙ ap flat_answer (sym e)
