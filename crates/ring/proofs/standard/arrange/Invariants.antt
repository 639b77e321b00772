use mathlib.Core.List.{map}
use Prim.Native.Nat.{◌*◌}
use Rattle.plane.specs.Point.{points, numbers, corner}
use Rattle.plane.proofs.theory.lists.Filled.{Filled}
use Rattle.ring.specs.Round.{in_sense}
use Rattle.ring.specs.Ring.{walked}
use Rattle.ring.proofs.standard.arrange.Given as goal

abbrev pub invariant-loop-k : goal.invariant-loop-k
invariant-loop-k l =
    Filled l.initial.shape (numbers (map (corner (points l.list)) (in_sense l.back (walked l.n l.start l.n)))) (2 * l.k) l.shape
