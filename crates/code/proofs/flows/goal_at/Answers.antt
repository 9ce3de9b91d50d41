-- `code::flows::goal_at` meets its contract: only the shape of jumps leads anywhere.
-- Assumes nothing.
use mathlib.Core.Path.{refl, ap, ◌∙◌}
use Prim.Native.Nat.{ℕ}
use lib.ListN.{length, drop}
use Rattle.op.proofs.Shaping.{same_shape}
use Rattle.op.specs.Shapes.{shape_number}
use Rattle.code.specs.Bytes.{signed}
use Rattle.code.specs.Flow.{goal_by}
use Rattle.code.proofs.Moving.{goal_jump, goal_none}
use Rattle.code.proofs.flows.goal_at.Goals as goal

pub returns-in-Offset : goal.returns-in-Offset
returns-in-Offset c =
    let s = c.args.code.now in
    c.goal_by.ensures ∙ ap (λ (w : ℕ). goal_by c.args.next (length s) (signed 65536 w)) c.word.ensures
    ∙ goal_jump c.args.next (length s) c.args.shape (drop c.args.at s) _ refl (ap shape_number c.in-Offset.is)

pub returns-in_default : goal.returns-in_default
returns-in_default c =
    goal_none c.args.next (length c.args.code.now) c.args.shape (drop c.args.at c.args.code.now) _ refl
    (λ e. c.in_default.not-Offset (same_shape _ _ e))
