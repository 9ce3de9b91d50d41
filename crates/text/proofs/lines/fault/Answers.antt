-- `text::lines::fault` meets its contract: 32 cells have room for the line, which is then put as bytes.
-- Assumes nothing.
use mathlib.Core.Path.{sym, ap, ◌∙◌}
use Prim.Native.Nat.{ℕ, ◌≤◌}
use native.Mathlib.Omega.{arith}
use lib.ListN.{length}
use lib.Seq.{length-take-le}
use Rattle.text.specs.Fields.{fault_text}
use Rattle.text.proofs.Bounds.{fault_short}
use Rattle.text.proofs.Lining.{fault_parts}
use Rattle.text.proofs.Putting.{front_text_lem, same_places}
use Rattle.text.proofs.lines.fault.Goals as goal

pub fault-end-requires : goal.fault-end-requires
fault-end-requires c =
    let short : length (fault_text c.args.at c.number.result) ≤ 32 = fault_short c.args.at c.number.result c.ranges.at.fits (omega (arith, c.number.type_inv)) in
    omega (arith, short)

pub slice_bounds-text-end : goal.slice_bounds-text-end
slice_bounds-text-end c =
    let short : length (fault_text c.args.at c.number.result) ≤ 32 = fault_short c.args.at c.number.result c.ranges.at.fits (omega (arith, c.number.type_inv)) in
    omega (arith, short, c.fault-end.ensures.next_is)

pub slice_bounds-bytes-end : goal.slice_bounds-bytes-end
slice_bounds-bytes-end c =
    let short : length (fault_text c.args.at c.number.result) ≤ 32 = fault_short c.args.at c.number.result c.ranges.at.fits (omega (arith, c.number.type_inv)) in
    sym (length-take-le _ _ (omega (arith, short, c.fault-end.ensures.next_is)))

pub returns : goal.returns
returns c =
    let short : length (fault_text c.args.at c.number.result) ≤ 32 = fault_short c.args.at c.number.result c.ranges.at.fits (omega (arith, c.number.type_inv)) in
    let a = c.args in
    same_places (front_text_lem c.fault-end.ensures (omega (arith, short))
    ∙ ap (λ (k : ℕ). fault_text a.at k) c.number.ensures ∙ fault_parts a.at a.refusal)
    c.bytes.ensures
