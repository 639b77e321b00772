use mathlib.Core.Path.{◌≡◌}
use lib.ListN.{length}
use Rattle.plane.specs.Point.{points}
use Rattle.plane.specs.Search.{some}
use Rattle.plane.specs.Shape.{breaks}
use Rattle.plane.proofs.theory.lists.Sought.{Sought}
use Rattle.std.specs.Prelude.{None}
use Rattle.polygon.proofs.rules.left_break.Given as goal

abbrev pub invariant-loop-corner : goal.invariant-loop-corner
invariant-loop-corner l = (l.found ≡ None) × Sought (breaks (points l.list) l.edge) (length (points l.list)) l.corner

abbrev pub invariant-edges : goal.invariant-edges
invariant-edges l =
    (l.found ≡ None) × Sought (λ e. some (breaks (points l.list) e) (length (points l.list))) (length (points l.list)) l.edge
