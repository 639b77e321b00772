use Prim.Native.Nat.{◌-◌}
use Rattle.plane.specs.Point.{points}
use Rattle.sorting.specs.Order.{closed, run}
use Rattle.hull.specs.theory.Stack.{Scanning}
use Rattle.hull.proofs.chains.rest.Given as goal

abbrev pub invariant-loop-i : goal.invariant-loop-i
invariant-loop-i l =
    Scanning l.initial.buf l.k (run (closed (points l.list)) l.from (l.end - l.from)) (run (closed (points l.list)) l.i (l.end - l.i)) l.buf
    l.kept
