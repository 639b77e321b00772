use Rattle.plane.specs.Point.{points}
use Rattle.journal.proofs.theory.Walk.{On}
use Rattle.gaps.proofs.theory.Steps.{Judging}
use Rattle.gaps.proofs.sizes.admit_sizes.Given as goal

abbrev pub invariant-loop-p : goal.invariant-loop-p
invariant-loop-p l = On l.log (λ p. Judging (points l.cart) l.log l.floor p) l.p-iterator
