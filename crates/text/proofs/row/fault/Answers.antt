-- `text::row::fault` meets its contract: the mark and a tab, the offset and a tab, the number and the line's end.
-- Assumes nothing.
use native.Mathlib.Omega.{arith}
use Rattle.text.specs.Fields.{front_text, fault_text}
use Rattle.text.proofs.Putting.{begin, next, last, part_fits, rest_fits}
use Rattle.text.proofs.row.fault.Goals as goal

pub byte-o-requires : goal.byte-o-requires
byte-o-requires c = omega (arith, rest_fits (begin c.args.out.now c.args.to (fault_text c.args.at c.args.number)) c.requires)

pub byte-e-requires : goal.byte-e-requires
byte-e-requires c =
    omega (
      arith,
      rest_fits (next (begin c.args.out.now c.args.to (fault_text c.args.at c.args.number)) c.byte-o.ensures)
          c.requires,
    )

pub ended-d-requires : goal.ended-d-requires
ended-d-requires c =
    part_fits (front_text c.args.at) _
    (next (next (begin c.args.out.now c.args.to (fault_text c.args.at c.args.number)) c.byte-o.ensures)
    c.byte-e.ensures) c.requires

pub ended-requires : goal.ended-requires
ended-requires c =
    rest_fits (next (next (next (begin c.args.out.now c.args.to (fault_text c.args.at c.args.number))
    c.byte-o.ensures) c.byte-e.ensures) c.ended-d.ensures) c.requires

pub returns : goal.returns
returns c =
    last (next (next (next (begin c.args.out.now c.args.to (fault_text c.args.at c.args.number)) c.byte-o.ensures)
    c.byte-e.ensures) c.ended-d.ensures) c.ended.ensures
