-- `code::flows::flow_by` meets its contract: each field is a callee's answer.
-- Assumes nothing.
use Rattle.code.proofs.flows.flow_by.Goals as goal

pub returns : goal.returns
returns c =
    rw (
      c.is_dead_maker-dead.ensures,
      c.net_at-net.ensures,
      c.goal_at-goal.ensures,
      c.change_of-taken.ensures,
      c.taken_effect.ensures,
    )
