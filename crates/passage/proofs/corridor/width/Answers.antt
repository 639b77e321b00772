-- `width` meets its contract: the root of the squared room over the direction's squared length.
use mathlib.Core.Path.{◌≡◌, sym, ◌∙◌, ap, ap₂}
use Prim.Native.Nat.{ℕ, ◌*◌, ◌<◌}
use borrow.Author.Tests.{ltb-true}
use lib.IntN.{pos, nat_abs}
use mir.Syntax.{w64}
use mir.Facts.{to_z-of_z}
use Rattle.integer.specs.Machine.{result-is}
use Rattle.integer.specs.Order.{lt-lt_z}
use Rattle.plane.specs.Direction.{value}
use Rattle.plane.specs.Measure.{root_below}
use Rattle.plane.proofs.theory.forms.Vector.{value-nonneg, square-positive}
use Rattle.plane.proofs.theory.direction.Rows.{direction-some}
use Rattle.polygon.specs.Point.{at}
use Rattle.polygon.specs.theory.Small.{small-wide}
use Rattle.measure.specs.theory.Rounded.{rounded-unique}
use Rattle.separator.specs.theory.Direction.{good-small}
use Rattle.passage.proofs.corridor.width.Goals as goal
use Rattle.passage.proofs.corridor.width.Goals.{After-magnitude-2}

pub dot-requires : goal.dot-requires
dot-requires c = let small = small-wide (good-small _ c.requires.1) in (small, small)

pub magnitude-requires-2 : goal.magnitude-requires-2
magnitude-requires-2 c = rw (result-is w64 c.dot.type_inv c.dot.ensures) (value-nonneg _)

-- the direction's squared length, which is above 0
length-is : (c : After-magnitude-2) → let d = at c.args.d in value d d ≡ pos c.magnitude-2.result
length-is c = sym (result-is w64 c.dot.type_inv c.dot.ensures) ∙ c.magnitude-2.ensures

positive : (c : After-magnitude-2) → 0 < c.magnitude-2.result
positive c =
    ltb-true 0 c.magnitude-2.result (lt-lt_z (rw (length-is c) at (square-positive _ (direction-some _ c.requires.1))))

pub root_of_fraction-requires : goal.root_of_fraction-requires
root_of_fraction-requires c = record { positive = positive c }

pub returns : goal.returns
returns c =
    let t = c.magnitude.result in
    let q = c.magnitude-2.result in
    let root = rounded-unique (t * t) q (positive c.before) c.root_of_fraction.result
    c.root_of_fraction.ensures.reached c.root_of_fraction.ensures.next-above in
    sym root ∙ ap₂ (λ (t q : ℕ). root_below (t * t) q) (ap nat_abs (sym c.magnitude.ensures
    ∙ to_z-of_z {w = w64} c.ranges.room))
    (ap nat_abs (sym (length-is c.before)))
