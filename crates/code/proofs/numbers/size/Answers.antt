-- `code::numbers::size` meets its contract: the shape's size with so many names.
-- Assumes nothing.
use mathlib.Core.Path.{ap, ◌∙◌}
use Rattle.op.specs.Shapes.{size_of}
use Rattle.code.proofs.numbers.size.Goals as goal

pub returns : goal.returns
returns c = c.instruction_size.ensures ∙ ap (size_of c.args.shape) c.names.ensures
