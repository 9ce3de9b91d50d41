-- The search from row i on answers what the whole search does.
use Rattle.std.proofs.Common.{◌≡◌, drop}
use Rattle.code.specs.Entries.{find_from}
use Rattle.records.proofs.find_exception_handler.Given as goal

abbrev pub invariant-loop-i : goal.invariant-loop-i
invariant-loop-i l = find_from (drop l.i l.entries) l.offset l.i ≡ find_from l.entries l.offset 0
