use Rattle.plane.specs.Point.{points}
use Rattle.polygon.specs.Point.{at}
use Rattle.journal.proofs.theory.Walk.{On}
use Rattle.drives.specs.theory.Walked.{Searched}
use Rattle.drives.proofs.first.Given as goal

abbrev pub invariant-loop-p : goal.invariant-loop-p
invariant-loop-p l = On l.log (λ p. Searched (points l.cart) (at l.t) (at l.u) l.floor l.log p l.best) l.p-iterator
