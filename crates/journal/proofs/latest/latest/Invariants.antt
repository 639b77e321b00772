use Rattle.journal.proofs.theory.Latest.{SoFar}
use Rattle.journal.proofs.theory.Walk.{On}
use Rattle.journal.proofs.latest.latest.Given as goal

abbrev pub invariant-loop-p : goal.invariant-loop-p
invariant-loop-p l = On l.log (λ p. SoFar l.name l.log p l.found) l.p-iterator
