-- `cocklesway_furthest` meets its contract: 13 for a floor above its limit, else the reply of `furthest`, crossed.
use mir.Syntax.{w32}
use mathlib.Core.Path.{◌≡◌, sym, ◌∙◌, ap, ap₂}
use mathlib.Core.Bool.{false}
use lib.Dec.{ltb}
use mir.Facts.{to_z-of_z}
use Rattle.plane.specs.Limits.{max_floor}
use Rattle.plane.specs.Point.{Point, point}
use Rattle.plane.specs.Floor.{on}
use Rattle.plane.specs.Question.{reply, ask_furthest}
use Rattle.crossing.specs.theory.Low.{low_fits, within-told}
use Rattle.crossing.specs.theory.High.{above}
use Rattle.calls.proofs.shapes.cocklesway_furthest.Goals as goal
use Rattle.calls.proofs.shapes.cocklesway_furthest.Goals.{Else-exceeds_floor}

-- past the test the floor is within its limit
low : (c : Else-exceeds_floor) → ltb max_floor c.args.floor ≡ false
low c = sym c.exceeds_floor.ensures ∙ c.if-exceeds_floor.false

pub returns : goal.returns
returns c =
    let direction = ap₂ point (to_z-of_z {w = w32} c.ranges.u) (to_z-of_z {w = w32} c.ranges.v) in
    let asked = ap (λ (d : Point). reply (ask_furthest (on c.args.list.now c.args.floor) d)) direction in
    within-told _ (low c.before.before) c.of.ensures (c.furthest.ensures ∙ asked)

pub returns-then-exceeds_floor : goal.returns-then-exceeds_floor
returns-then-exceeds_floor c = (above _ (sym c.exceeds_floor.ensures ∙ c.if-exceeds_floor.true) c.barred.ensures).0

pub overflow_cast-floor : goal.overflow_cast-floor
overflow_cast-floor c = low_fits _ (low c)
