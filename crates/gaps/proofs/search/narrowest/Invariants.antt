use Rattle.std.specs.Prelude.{List, None, ℕ}
use Rattle.plane.specs.Point.{points}
use Rattle.journal.proofs.theory.Walk.{On}
use Rattle.gaps.specs.Gap.{Pair, pairs_of}
use Rattle.gaps.specs.Search.{from, Walk}
use Rattle.gaps.proofs.theory.Passed.{Along}
use Rattle.gaps.proofs.search.narrowest.Given as goal

-- the pairs of the floor's shapes from a place on
abbrev pub pairs : ℕ → List ℕ → ℕ → List Pair
pairs f b p = pairs_of (from f b p)

abbrev pub invariant-loop-p : goal.invariant-loop-p
invariant-loop-p l = On l.log (λ p. Walk (points l.cart) l.log l.floor p
    × Along (points l.cart) l.log (pairs l.floor l.log) 0 None l.best p) l.p-iterator
