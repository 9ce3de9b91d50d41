-- `builder::tables::put` meets its contract: after i turns the first i cells stand at the front.
-- Assumes nothing.
use mathlib.Core.Path.{ap, ◌∙◌}
use mathlib.Core.List.{List}
use native.Mathlib.Omega.{arith}
use lib.ListN.{set}
use lib.Seq.{take_all}
use Rattle.code.specs.Bytes.{front}
use Rattle.code.proofs.Stores.{front_next}
use Rattle.builder.proofs.tables.put.Goals as goal

pub loop-i-preserved : goal.loop-i-preserved
loop-i-preserved g c =
    let l = c.loop-i in
    let a = c.args in
    let cell = c.index-cells-i in
    ap (λ (d : List g.row.T.Denot). set d l.i cell.result) l.invariant
    ∙ front_next a.cells.now a.out.now l.i cell.result (omega arith) (omega (arith, c.requires)) cell.is
