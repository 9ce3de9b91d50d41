-- Exceptions: R22, R41, refusal 10 (R27).
-- Assumes nothing.
use Rattle.std.specs.Prelude.{Bool, ◌&&◌, List, ℕ, ◌+◌, leb, length, Ok}
use Rattle.op.specs.declared.Refusal.TheVariants.{TooLarge, Full, Unsound}
use Rattle.op.specs.declared.Table.TheVariants.{Exceptions}
use Rattle.code.specs.Entries.{kind_number}
use Rattle.code.specs.Lookups.{handler_cells}
use Rattle.code.specs.declared.HandlerKind.{HandlerKind}
use Rattle.builder.specs.declared.Builder.{Builder}
use Rattle.code.specs.Tables.{exception_cells, push, room, within}
use Rattle.builder.specs.State.{Kept, counts_of, kept, unless}

-- 10, "an exception's offset is over 4,294,967,295"
abbrev pub offset_max : ℕ
offset_max = 4294967295

unfoldable pub offsets_fit : (start end handler : ℕ) → Bool
offsets_fit start end handler = leb start offset_max && leb end offset_max && leb handler offset_max

-- "start, end, handler, depth, exception count, kind" (R22)
abbrev pub exception_row : (start end handler depth count : ℕ) (kind : HandlerKind) → List ℕ
exception_row start end handler depth count kind =
    handler_cells
    (record {
      start = start;
      end = end;
      handler = handler;
      depth = depth;
      count = count;
      kind = kind_number kind;
    })

-- the same state with so many exceptions
abbrev pub with_exceptions : (builder : Builder) (exceptions : ℕ) → Builder
with_exceptions builder exceptions = record {
  core = builder.core;
  location = builder.location;
  exceptions = exceptions;
  constants = builder.constants;
  names = builder.names;
  starts = builder.starts;
}

-- 19, 10, 18; the row at the used end (R41)
unfoldable pub add_exception_of : (builder : Builder) (start end handler depth count : ℕ) (kind : HandlerKind)
    (cells : List ℕ) → Kept
add_exception_of builder start end handler depth count kind cells =
    unless (counts_of builder (within exception_cells builder.exceptions (length cells))) Unsound cells
    (unless (offsets_fit start end handler) TooLarge cells
    (unless (room exception_cells builder.exceptions (length cells)) (Full Exceptions) cells
    (kept (Ok (with_exceptions builder (builder.exceptions + 1)))
    (push exception_cells builder.exceptions (exception_row start end handler depth count kind) cells))))
