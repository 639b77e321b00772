use Rattle.journal.proofs.theory.Ahead.{Ahead}
use Rattle.journal.proofs.theory.Walk.{On}
use Rattle.journal.proofs.current.is_held.Given as goal

abbrev pub invariant-loop-p : goal.invariant-loop-p
invariant-loop-p l = On l.log (Ahead l.name l.log l.from) l.p-iterator
