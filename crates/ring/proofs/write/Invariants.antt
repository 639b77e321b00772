use mathlib.Core.List.{map}
use Prim.Native.Nat.{◌*◌}
use Rattle.plane.specs.Point.{points, numbers, corner}
use Rattle.plane.proofs.theory.lists.Filled.{Filled}
use Rattle.ring.proofs.write.Given as goal

abbrev pub invariant-loop-k : goal.invariant-loop-k
invariant-loop-k l = Filled l.initial.out (numbers (map (corner (points l.list)) l.places)) (2 * l.k) l.out
