use Prim.Native.Nat.{◌+◌}
use Rattle.divisor.specs.Halving.{Halved}
use Rattle.divisor.proofs.odd_divisor.Given as goal

abbrev pub invariant-loop-x : goal.invariant-loop-x
invariant-loop-x l = Halved 32 l.a l.b l.x l.y

abbrev pub decreases-loop-x : goal.decreases-loop-x
decreases-loop-x l = l.x + l.y
