-- Each turn takes a newline of what is left.
use Rattle.std.proofs.Common.{length}
use Rattle.text.proofs.lines.Lines.take.Given as goal

abbrev pub decreases-loop-count : goal.decreases-loop-count
decreases-loop-count g l = length l.left
