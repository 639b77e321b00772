use mathlib.Core.Bool.{true}
use mathlib.Core.List.{[], ◌∷◌}
use mathlib.Core.Path.{◌≡◌}
use Prim.Native.Nat.{ℕ, ◌<◌}
use Rattle.plane.specs.Point.{points, corner}
use Rattle.plane.specs.Separation.{inside}
use Rattle.polygon.specs.Point.{at}
use Rattle.separation.proofs.within.in_segment.Given as goal

abbrev pub invariant-loop-i : goal.invariant-loop-i
invariant-loop-i l = (k : ℕ) → k < l.i → inside (corner (points l.a) k ∷ []) (at l.p ∷ at l.q ∷ []) ≡ true
