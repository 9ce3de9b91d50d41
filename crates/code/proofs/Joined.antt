-- The handler lookup over a list of records is the flat lookup over their rows joined.
-- Assumes nothing.
use Rattle.std.specs.Prelude.{Some, None, Option}
use Prim.Native.Nat.{ℕ, zero, suc, ◌+◌}
use native.Mathlib.Nat.{zero-add, add-zero}
use native.Mathlib.Omega.{arith}
use mathlib.Core.Bool.{Bool, true, false, cond}
use mathlib.Core.List.{List, [], ◌∷◌, ◌++◌}
use mathlib.Core.Path.{◌≡◌, refl, ap, sym, ◌∙◌}
use borrow.Author.Tests.{lt-ltb}
use lib.Dec.{ltb, leb-suc-suc}
use Rattle.code.proofs.First.{first_same}
use Rattle.code.proofs.Rows.{count_next, cell_next}
use Rattle.code.specs.Entries.{contains, find_from, entry_row, table_of, flat_answer}
use Rattle.code.specs.Tables.{exception_cells}
use Rattle.code.specs.Lookups.{handler_row, handler_cells, covers_of, covering, first_covering, handler_of}
use Rattle.code.specs.Rows.{row_count, cell, first}
use Rattle.code.specs.declared.ExceptionEntry.{ExceptionEntry}
use Rattle.code.specs.declared.HandlerRow.{HandlerRow}

-- the flat lookup's answer, its rows numbered from j
abbrev handler_from : List ℕ → ℕ → ℕ → Option (ℕ × HandlerRow)
handler_from cells x j =
    cond (ltb (first_covering cells x) (row_count exception_cells cells))
    (Some ((j + first_covering cells x), (handler_row cells (first_covering cells x))))
    None

module _ (e : ExceptionEntry) (cells : List ℕ) (x : ℕ) where
  abbrev more : List ℕ
  more = handler_cells (entry_row e) ++ cells

  count_more : row_count exception_cells more ≡ suc (row_count exception_cells cells)
  count_more = count_next exception_cells (handler_cells (entry_row e)) cells (omega arith) refl

  row_more : (i : ℕ) → handler_row more (suc i) ≡ handler_row cells i
  row_more i =
      let next : (k : ℕ) → cell exception_cells more (suc i) k ≡ cell exception_cells cells i k
      = λ k. cell_next exception_cells (handler_cells (entry_row e)) cells i k refl in
      λ d.
      record {
        start = next 0 d;
        end = next 1 d;
        handler = next 2 d;
        depth = next 3 d;
        count = next 4 d;
        kind = next 5 d;
      }

  covering_more : (i : ℕ) → covering more x (suc i) ≡ covering cells x i
  covering_more i = ap (λ (r : HandlerRow). covers_of r.start r.end x) (row_more i)

  -- the first row that covers an offset, with an entry's row in front
  first_more : first_covering more x ≡ cond (contains e x) zero (suc (first_covering cells x))
  unfolding first_covering first
  first_more =
      rw count_more
      (ap (λ (n : ℕ). cond (contains e x) zero (suc n))
      (first_same (λ i. covering more x (suc i)) (covering cells x) (row_count exception_cells cells) covering_more))

  -- that entry is found, or what the rest has
  from_more : (j : ℕ) (b : Bool) → contains e x ≡ b → handler_from more x j ≡ cond b (Some (j, (entry_row e))) (handler_from cells x (j + 1))
  from_more j true hit =
      rw (first_more, count_more, hit, lt-ltb 0 (suc (row_count exception_cells cells)) (omega arith), add-zero j)
  from_more j false miss =
      let e : j + suc (first_covering cells x) ≡ j + 1 + first_covering cells x = omega arith in
      rw (first_more, count_more, miss, leb-suc-suc, row_more, e)

-- the lookups agree, however their rows are numbered
numbered : (es : List ExceptionEntry) (x j : ℕ) → handler_from (table_of es) x j ≡ flat_answer (find_from es x j)
unfolding table_of find_from first_covering first
numbered [] x j = refl
numbered (e ∷ es) x j = go (contains e x) refl (numbered es x (j + 1))
  where
    go : (b : Bool)
        → contains e x ≡ b
        → handler_from (table_of es) x (j + 1) ≡ flat_answer (find_from es x (j + 1))
        → handler_from (table_of (e ∷ es)) x j ≡ flat_answer (cond b (Some (j, e)) (find_from es x (j + 1)))
    go true hit rest = from_more e (table_of es) x j true hit
    go false miss rest = from_more e (table_of es) x j false miss ∙ rest

pub records_flat : (es : List ExceptionEntry) (x : ℕ) → handler_of (table_of es) x ≡ flat_answer (find_from es x 0)
unfolding handler_of
records_flat es x = ap (λ (i : ℕ). answer_at i) (sym (zero-add (first_covering cells x))) ∙ numbered es x 0
  where
    cells : List ℕ
    cells = table_of es

    answer_at : ℕ → Option (ℕ × HandlerRow)
    answer_at i =
        cond (ltb (first_covering cells x) (row_count exception_cells cells))
        (Some (i, (handler_row cells (first_covering cells x))))
        None
