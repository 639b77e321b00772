use Rattle.plane.specs.Point.{points}
use Rattle.sorting.specs.Buffer.{route}
use Rattle.hull.specs.theory.Stack.{Scanning}
use Rattle.hull.proofs.outline.side.Given as goal

abbrev pub invariant-loop-i : goal.invariant-loop-i
invariant-loop-i l =
    Scanning l.initial.buf 0 (route l.up (points l.list) l.n 0) (route l.up (points l.list) l.n l.i) l.buf l.kept
