use Rattle.journal.proofs.theory.Walk.{On}
use Rattle.drives.specs.theory.Walked.{Bare}
use Rattle.drives.proofs.floor.is_empty.Given as goal

abbrev pub invariant-loop-p : goal.invariant-loop-p
invariant-loop-p l = On l.log (λ p. Bare l.log l.floor p) l.p-iterator
