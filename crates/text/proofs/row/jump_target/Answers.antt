-- `text::row::jump_target` meets its contract: no sum leaves 64 bits.
-- Assumes nothing.
use Rattle.text.proofs.Targets.{first_fits, wide_fits, sum_fits, sum_is}
use Rattle.text.proofs.row.jump_target.Goals as goal

pub overflow_add-result : goal.overflow_add-result
overflow_add-result c = first_fits c.args.at c.args.displacement c.requires c.ranges.displacement

pub overflow_cast-result-2 : goal.overflow_cast-result-2
overflow_cast-result-2 c = wide_fits c.args.at c.args.displacement c.requires c.ranges.displacement

pub overflow_add-result-2 : goal.overflow_add-result-2
overflow_add-result-2 c = sum_fits c.args.at c.args.displacement c.requires c.ranges.displacement

pub returns : goal.returns
returns c = sum_is c.args.at c.args.displacement c.requires c.ranges.displacement
