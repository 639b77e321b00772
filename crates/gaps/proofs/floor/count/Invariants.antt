use Rattle.journal.proofs.theory.Walk.{On}
use Rattle.gaps.proofs.theory.Steps.{Counting}
use Rattle.gaps.proofs.floor.count.Given as goal

abbrev pub invariant-loop-p : goal.invariant-loop-p
invariant-loop-p l = On l.log (λ p. Counting l.log l.floor l.n p) l.p-iterator
