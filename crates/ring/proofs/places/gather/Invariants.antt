use mathlib.Core.List.{◌∷◌}
use Prim.Native.Nat.{◌-◌, ◌≤◌, ◌<◌}
use Rattle.plane.specs.Point.{points, corner}
use Rattle.plane.specs.Shape.{next}
use Rattle.ring.specs.Round.{differing}
use Rattle.ring.specs.Ring.{walked}
use Rattle.ring.specs.theory.Buffers.{Coming}
use Rattle.ring.proofs.places.gather.Given as goal

abbrev pub invariant-loop : goal.invariant-loop
invariant-loop l =
    Coming (l.start ∷ differing (corner (points l.list)) l.start (walked l.n (next l.n l.start) (l.n - 1)))
    (differing (corner (points l.list)) l.from (walked l.n (next l.n l.from) (l.n - l.counter))) l.count l.kept
    × (l.from < l.n) × (l.count ≤ l.counter)
