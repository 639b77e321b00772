-- Places that were judged.
--     in-range     a place that 3 lets pass is within the range of coordinates
use mathlib.Core.Path.{◌≡◌}
use mathlib.Core.Bool.{false}
use mathlib.Core.List.{[], ◌∷◌}
use native.Mathlib.Omega.{arith}
use Rattle.plane.specs.Limits.{max_coordinate}
use Rattle.plane.specs.Point.{Point}
use Rattle.plane.specs.Refusal.{some_outside}
use Rattle.plane.proofs.theory.refusals.Accept.{near→in_range}
use Rattle.polygon.specs.Point.{Small}

pub in-range : (p : Point) → some_outside (p.x ∷ p.y ∷ []) ≡ false → Small max_coordinate p
in-range p h =
    let near = near→in_range (p.x ∷ p.y ∷ []) h in
    record { small-x = near.near 0 (omega arith); small-y = near.near 1 (omega arith) }
