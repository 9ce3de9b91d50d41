-- Two records of the exception table given as twelve numbers, and what the lookup over them tells: R22, R45; refusal 19.
-- Assumes nothing.
use Rattle.code.specs.declared.ExceptionEntry.{ExceptionEntry}
use Rattle.std.specs.Prelude.{cond, List, [], ◌∷◌, ℕ, ◌+◌, leb, eqb, length, get_or, Some, None, Option}
use Rattle.op.specs.declared.Refusal.TheVariants.{Unsound}
use Rattle.code.specs.Entries.{find_from, flat_answer}
use Rattle.code.specs.Tables.{word_max}
use Rattle.code.specs.declared.HandlerKind.{HandlerKind}
use Rattle.code.specs.declared.HandlerKind.TheVariants.{Consuming, Cleanup}
use Rattle.api.specs.Tables.{handled_told}
use Rattle.api.specs.Told.{Told, refusal}

-- "0 Consuming, 1 Cleanup"
abbrev pub kind_of : ℕ → HandlerKind
kind_of k = cond (eqb k 0) Consuming Cleanup

-- the record of six numbers: none where a depth or a count is over 65,535, or a kind over 1
abbrev pub entry_of : ℕ → ℕ → ℕ → ℕ → ℕ → ℕ → Option ExceptionEntry
entry_of start end handler depth count kind =
    cond (leb depth word_max)
    (cond (leb count word_max)
    (cond (leb kind 1)
    (Some (record {
      start = start;
      end = end;
      handler = handler;
      stack_depth = depth;
      exception_stack_count = count;
      kind = kind_of kind;
    }))
    None)
    None)
    None

-- the record that begins at a place of lent numbers
unfoldable pub entry_at : List ℕ → ℕ → Option ExceptionEntry
entry_at rows at =
    entry_of (get_or rows at 0) (get_or rows (at + 1) 0) (get_or rows (at + 2) 0) (get_or rows (at + 3) 0) (get_or rows (at + 4) 0) (get_or rows (at + 5) 0)

-- the first of two records that contains an offset
abbrev pub both_told : Option ExceptionEntry → Option ExceptionEntry → ℕ → Told
both_told (Some a) (Some b) offset = handled_told (flat_answer (find_from (a ∷ b ∷ []) offset 0))
both_told (Some a) None offset = refusal Unsound
both_told None b offset = refusal Unsound

-- of twelve numbers at least
unfoldable pub two_told : List ℕ → ℕ → Told
two_told rows offset = cond (leb 12 (length rows)) (both_told (entry_at rows 0) (entry_at rows 6) offset) (refusal Unsound)
