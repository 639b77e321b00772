use Prim.Native.Nat.{◌<◌}
use lib.ListN.{length}
use Rattle.plane.specs.Point.{points}
use Rattle.tangents.proofs.tangent.Given as goal

abbrev pub invariant-loop : goal.invariant-loop
invariant-loop l = (l.from < length (points l.a)) × (l.to < length (points l.b))
