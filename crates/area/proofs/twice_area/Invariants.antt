use mathlib.Core.Path.{◌≡◌}
use Rattle.plane.specs.Point.{points}
use Rattle.area.proofs.theory.Partial.{partial}
use Rattle.area.proofs.twice_area.Given as goal

abbrev pub invariant-loop-i : goal.invariant-loop-i
invariant-loop-i l = l.sum ≡ partial (points l.list) l.i
