use Rattle.plane.specs.Point.{points}
use Rattle.journal.specs.Survey.{next_at}
use Rattle.journal.proofs.theory.Walk.{On}
use Rattle.gaps.specs.Search.{later_pairs, Walk}
use Rattle.gaps.proofs.theory.Passed.{Along}
use Rattle.gaps.proofs.search.later.Given as goal

abbrev pub invariant-loop-q : goal.invariant-loop-q
invariant-loop-q l = On l.log (λ q. Walk (points l.cart) l.log l.floor q
    × Along (points l.cart) l.log (later_pairs l.floor l.log l.p) (next_at l.log l.p) l.initial.kept l.kept q) l.q-iterator
