use Rattle.journal.proofs.theory.Marks.{Marking}
use Rattle.journal.proofs.theory.Walk.{On}
use Rattle.journal.proofs.marks.mark.Given as goal

abbrev pub invariant-loop-p : goal.invariant-loop-p
invariant-loop-p l = On l.log (Marking l.log l.initial.table l.table) l.p-iterator
