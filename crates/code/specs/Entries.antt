-- The records of the tables, and the handler lookup over a list of them: code.rs, `ExceptionEntry`,
-- `find_exception_handler`; "and over a lent slice of records" (R45).
-- Assumes nothing.
use Rattle.std.specs.Prelude.{ℕ, ◌+◌, Bool, true, false, cond, List, [], ◌∷◌, ◌++◌, Some, None, Option, ◌≡◌, ◌<◌, Result, MatchResult}
use Rattle.code.specs.declared.entries.NoKind.{NoKind}
use Rattle.code.specs.Lookups.{covers_of, handler_cells}
use Rattle.code.specs.declared.ExceptionEntry.{ExceptionEntry}
use Rattle.code.specs.declared.HandlerKind.{HandlerKind}
use Rattle.code.specs.declared.HandlerKind.TheVariants.{Consuming, Cleanup}
use Rattle.code.specs.declared.HandlerRow.{HandlerRow}

-- code.rs, `contains`
abbrev pub contains : ExceptionEntry → ℕ → Bool
contains e x = covers_of e.start e.end x

-- code.rs, `pushes_exception`
abbrev pub pushes_exception : HandlerKind → Bool
pushes_exception Consuming = true
pushes_exception Cleanup = false

-- the first entry of a list that contains an offset, with its number; the entries are numbered from i (R45)
unfoldable pub find_from : List ExceptionEntry → ℕ → ℕ → Option (ℕ × ExceptionEntry)
find_from [] x i = None
find_from (e ∷ es) x i = cond (contains e x) (Some (i, e)) (find_from es x (i + 1))

-- "0 Consuming, 1 Cleanup"
abbrev pub kind_number : HandlerKind → ℕ
kind_number Consuming = 0
kind_number Cleanup = 1

-- a number and the kind whose number it is, or an error with a number that no kind has
abbrev pub Kinds : ℕ → Result HandlerKind NoKind → Type 0
Kinds n r = MatchResult r (λ kind. kind_number kind ≡ n) (λ e. (e.0 ≡ n) × (1 < n))

-- an entry as a row of the exception table
abbrev pub entry_row : ExceptionEntry → HandlerRow
entry_row e =
    record {
      start = e.start;
      end = e.end;
      handler = e.handler;
      depth = e.stack_depth;
      count = e.exception_stack_count;
      kind = kind_number e.kind;
    }

-- a list of entries as an exception table: their rows joined
unfoldable pub table_of : List ExceptionEntry → List ℕ
table_of [] = []
table_of (e ∷ es) = handler_cells (entry_row e) ++ table_of es

-- an answer over records as the answer over their rows
abbrev pub flat_answer : Option (ℕ × ExceptionEntry) → Option (ℕ × HandlerRow)
flat_answer (Some (i, e)) = Some (i, (entry_row e))
flat_answer None = None
