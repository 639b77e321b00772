use Prim.Native.Nat.{◌+◌, ◌-◌}
use Rattle.plane.specs.Point.{points}
use Rattle.sorting.specs.Order.{closed}
use Rattle.hull.specs.theory.Reading.{Reading}
use Rattle.hull.proofs.chains.both.Given as goal

abbrev pub invariant-loop-i : goal.invariant-loop-i
invariant-loop-i l =
    Reading l.up (closed (points l.a)) l.row.first l.row.end (closed (points l.b)) l.other.first l.other.end l.initial.buf l.buf l.i l.j l.k

abbrev pub decreases-loop-i : goal.decreases-loop-i
decreases-loop-i l = (l.row.end - l.i) + (l.other.end - l.j)
