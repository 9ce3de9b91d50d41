-- `text::write::copy` meets its contract: after j turns the first j bytes of src stand from `at` on.
-- Assumes nothing.
use mathlib.Core.Path.{refl, ap, ◌∙◌}
use mathlib.Core.List.{List}
use Prim.Native.Nat.{ℕ, ◌+◌}
use native.Mathlib.Omega.{arith}
use lib.ListN.{set, get_or, length-set}
use lib.Seq.{sets, take_all}
use Rattle.text.proofs.Putting.{sets_more}
use Rattle.text.proofs.write.copy.Goals as goal

pub loop-j-preserved : goal.loop-j-preserved
loop-j-preserved c =
    let l = c.loop-j in
    let a = c.args in (
      simp length-set l.invariant.0,
      ap (λ (d : List ℕ). set d (a.at + l.j) (get_or a.src.now l.j 0)) l.invariant.1
          ∙ sets_more a.out.now a.at a.src.now l.j (omega arith),
    )

pub returns : goal.returns
returns c =
    let l = c.loop-j in
    let a = c.args in
    record {
      next_is = refl;
      out_is = l.invariant.1 ∙ ap (λ (s : List ℕ). sets a.out.now a.at s) (take_all l.j a.src.now (omega arith));
    }
