-- `text::lines::tight` meets its contract: the front and the back fit their cells, by the bounds of a line.
-- Assumes nothing.
use mathlib.Core.Path.{sym}
use mathlib.Core.List.{◌++◌, append_assoc}
use native.Mathlib.Omega.{arith}
use lib.ListN.{drop, length-append}
use lib.Seq.{length-take-le}
use Rattle.text.specs.Fields.{front_text, back_text}
use Rattle.text.proofs.Bounds.{front_short}
use Rattle.text.proofs.Putting.{then, front_text_lem, same_places}
use Rattle.text.proofs.lines.tight.Goals as goal

pub ended-o-requires : goal.ended-o-requires
ended-o-requires c =
    omega (
      arith,
      front_short c.args.at c.requires.0.low,
      c.requires.1,
      c.copy-f.ensures.next_is,
    )

pub slice_bounds-head-end : goal.slice_bounds-head-end
slice_bounds-head-end c =
    omega (
      arith,
      front_short c.args.at c.requires.0.low,
      c.requires.1,
      c.copy-f.ensures.next_is,
      c.ended-o.ensures.next_is,
    )

pub slice_bounds-joined-end : goal.slice_bounds-joined-end
slice_bounds-joined-end c =
    sym (length-take-le _ _ (omega (
      arith,
      front_short c.args.at c.requires.0.low,
      c.requires.1,
      c.copy-f.ensures.next_is,
      c.ended-o.ensures.next_is,
    )))

pub slice_bounds-joined-end-2 : goal.slice_bounds-joined-end-2
slice_bounds-joined-end-2 c =
    sym (length-take-le _ _ (omega
    (arith, c.requires.0.back, c.back-e.ensures.next_is, c.cells-back.ensures)))

pub returns : goal.returns
returns c =
    let both = then c.copy-f.ensures c.ended-o.ensures in
    let f = front_text_lem both (omega (
      arith,
      length-append c.args.front.now (front_text c.args.at),
      front_short c.args.at c.requires.0.low,
      c.requires.1,
    )) in
    let k = front_text_lem c.back-e.ensures
    (omega (arith, c.requires.0.back, c.cells-back.ensures)) in
    same_places (rw (
      f,
      k,
    ) (append_assoc c.args.front.now (front_text c.args.at)
    (c.args.name.now ++ back_text c.args.at c.args.operand
    (drop c.args.at c.args.code.now))))
    c.joined.ensures
