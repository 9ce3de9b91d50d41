-- `text::lister::put_line` meets its contract: what the line says of the listing.
-- Assumes nothing.
use mathlib.Core.Path.{sym, ap}
use native.Mathlib.Omega.{arith}
use lib.ListN.{length}
use lib.Seq.{length-take-le}
use Rattle.text.proofs.Progressing.{column_low, told}
use Rattle.text.proofs.Putting.{front_text_lem}
use Rattle.text.proofs.lister.put_line.Goals as goal

pub slice_bounds-cells-end : goal.slice_bounds-cells-end
slice_bounds-cells-end c = omega (arith, c.column-n.ensures.1)

pub slice_bounds-step_line-end : goal.slice_bounds-step_line-end
slice_bounds-step_line-end c = sym (length-take-le _ _ (omega (arith, c.column-n.ensures.1)))

pub step_line-requires : goal.step_line-requires
step_line-requires c =
    let f = front_text_lem c.column-n.ensures.0 (omega (arith, c.column-n.ensures)) in (
      c.requires.0,
      record {
        short = omega (arith, ap length f, c.column-n.ensures);
        low = λ h. omega (
          arith,
          column_low c.args.depths.now c.args.at (omega (arith, ap length f, h)),
          c.requires.1.small,
          c.requires.1.cells,
        );
        fits = c.requires.1.fits;
      },
    )

pub returns : goal.returns
returns c =
    let f = front_text_lem c.column-n.ensures.0 (omega (arith, c.column-n.ensures)) in
    told c.args.depths.now c.args.code.now c.args.at c.args.out.now
    c.args.to c.requires.1 c.args.step (sym c.requires.0.is) _ f _ _
    c.step_line.ensures
