-- `goes_on` meets its contract: it compares the values of two corners.
use mathlib.Core.Path.{◌∙◌, ap, ap₂}
use Prim.Native.Nat.{ℕ, ◌<◌}
use native.Mathlib.Omega.{arith}
use lib.ListN.{length}
use lib.Signed.{le_z}
use mir.Syntax.{w64}
use Rattle.integer.specs.Machine.{result-is}
use Rattle.plane.specs.Point.{points, corner}
use Rattle.plane.specs.Shape.{next}
use Rattle.plane.specs.Direction.{value}
use Rattle.polygon.specs.Point.{at}
use Rattle.polygon.specs.theory.Small.{small-corner, small-wide}
use Rattle.sums.proofs.extent.goes_on.Goals as goal
use Rattle.sums.proofs.extent.goes_on.Goals.{After-next-after}

-- the next position is one of the list
next-in : (c : After-next-after) → c.next-after.result < length (points c.args.list.now)
next-in c = omega (arith, c.next-after.ensures.upper_bound, c.count.ensures)

pub dot-requires : goal.dot-requires
dot-requires c =
    (c.requires.2, small-wide (small-corner _ c.requires.1 _ c.requires.0 c.corner_at.ensures))

pub dot-requires-2 : goal.dot-requires-2
dot-requires-2 c =
    (c.requires.2, small-wide (small-corner _ c.requires.1 _ (next-in c.before.before.before) c.corner_at-2.ensures))

pub returns : goal.returns
returns c =
    let ps = points c.args.list.now in
    let here = c.corner_at.ensures in
    let there = c.corner_at-2.ensures
    ∙ ap (corner ps) (c.next-after.ensures.value ∙ ap (λ (n : ℕ). next n c.args.i) c.count.ensures) in
    ap₂ le_z (result-is w64 c.dot.type_inv (c.dot.ensures ∙ ap (value (at c.args.d)) here))
    (result-is w64 c.dot-2.type_inv (c.dot-2.ensures ∙ ap (value (at c.args.d)) there))
