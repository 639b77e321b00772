use Rattle.journal.specs.Marks.{Marked}
use Rattle.journal.proofs.theory.Walk.{On}
use Rattle.packing.specs.theory.Passes.{Packs}
use Rattle.packing.proofs.store.Given as goal

abbrev pub invariant-loop-p : goal.invariant-loop-p
invariant-loop-p l =
    On l.old (λ p. Packs l.allowed l.old l.initial.new l.but p l.q l.need l.new × Marked l.old l.table p) l.p-iterator
