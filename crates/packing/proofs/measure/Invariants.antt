use Rattle.journal.specs.Marks.{Marked}
use Rattle.journal.proofs.theory.Walk.{On}
use Rattle.packing.specs.theory.Passes.{Measured}
use Rattle.packing.proofs.measure.Given as goal

abbrev pub invariant-loop-p : goal.invariant-loop-p
invariant-loop-p l = On l.old (λ p. Measured l.old l.but p l.n × Marked l.old l.table p) l.p-iterator
