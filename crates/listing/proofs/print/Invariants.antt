-- Behind each part but the last there are fewer lines.
use Rattle.std.proofs.Common.{length}
use Rattle.text.specs.Lines.{plain_lines}
use Rattle.listing.proofs.print.Given as goal

abbrev pub decreases-loop-part : goal.decreases-loop-part
decreases-loop-part g l = length (plain_lines l.code l.next)
