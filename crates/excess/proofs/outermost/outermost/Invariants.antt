use Rattle.plane.specs.Point.{points}
use Rattle.excess.proofs.Search.{Searched}
use Rattle.excess.proofs.outermost.outermost.Given as goal

abbrev pub invariant-loop-i : goal.invariant-loop-i
invariant-loop-i l = Searched (points l.new) (points l.old) l.i l.best
