-- The entry of row i contains the offset: it is the answer. It does not: the search goes on at the next row.
use Rattle.std.proofs.Common.{◌≡◌, true, false, List, ℕ, ◌+◌, ◌<◌, ◌≤◌, length, drop, get_or, sym, ◌∙◌, add-one, drop-cons, Some, None}
use lib.ListN.{drop_of_length-le}
use mathlib.Core.Bool.{cond}
use Rattle.code.specs.Entries.{contains, find_from}
use Rattle.code.specs.declared.ExceptionEntry.{ExceptionEntry}
use Rattle.code.specs.declared.HandlerKind.TheVariants.{Consuming}
use Rattle.records.proofs.find_exception_handler.Goals as goal

-- what lies past the end
abbrev none : ExceptionEntry
none = record { start = 0; end = 0; handler = 0; stack_depth = 0; exception_stack_count = 0; kind = Consuming }

at_end : (xs : List ExceptionEntry) (x i : ℕ) → length xs ≤ i → None ≡ find_from (drop i xs) x i
unfolding find_from
at_end xs x i h = rw (drop_of_length-le xs)

one_on : (xs : List ExceptionEntry) (x i : ℕ) → i < length xs
    → find_from (drop i xs) x i ≡ cond (contains (get_or xs i none) x) (Some (i, (get_or xs i none))) (find_from (drop (i + 1) xs) x (i + 1))
unfolding find_from
one_on xs x i l = rw (drop-cons xs i none l, add-one i)

hit : (xs : List ExceptionEntry) (x i : ℕ) → i < length xs → contains (get_or xs i none) x ≡ true
    → Some (i, (get_or xs i none)) ≡ find_from (drop i xs) x i
hit xs x i l e = rw (one_on xs x i l, e)

missed : (xs : List ExceptionEntry) (x i : ℕ) → i < length xs → contains (get_or xs i none) x ≡ false
    → find_from (drop (i + 1) xs) x (i + 1) ≡ find_from (drop i xs) x i
missed xs x i l e = rw (one_on xs x i l, e)

pub returns-then-contains : goal.returns-then-contains
returns-then-contains c = hit _ _ _ c.loop-i-test.true (sym c.contains.ensures ∙ c.if-contains.true) ∙ c.loop-i.invariant

pub loop-i-preserved : goal.loop-i-preserved
loop-i-preserved c = missed _ _ _ c.loop-i-test.true (sym c.contains.ensures ∙ c.if-contains.false) ∙ c.loop-i.invariant

pub returns : goal.returns
returns c = at_end _ _ _ c.loop-i-test.false ∙ c.loop-i.invariant
