use Rattle.journal.specs.Marks.{Marked}
use Rattle.journal.proofs.theory.Nth.{Nth}
use Rattle.journal.proofs.theory.Walk.{On}
use Rattle.journal.proofs.current.entry.Given as goal

abbrev pub invariant-loop-p : goal.invariant-loop-p
invariant-loop-p l = On l.log (λ p. Nth l.k l.log p l.left × Marked l.log l.table p) l.p-iterator
