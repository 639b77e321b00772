-- `cocklesway_log_contact` meets its contract: 13 for a floor above its limit, else the reply of `log_contact`, crossed.
use mir.Syntax.{w32}
use mathlib.Core.Path.{◌≡◌, sym, ◌∙◌, ap₂}
use mathlib.Core.Bool.{false}
use lib.Dec.{ltb}
use mir.Facts.{to_z-of_z}
use Rattle.plane.specs.Limits.{max_floor}
use Rattle.plane.specs.Point.{Point, point}
use Rattle.plane.specs.Floor.{on}
use Rattle.plane.specs.Question.{reply}
use Rattle.drives.specs.Drive.{ask_drive}
use Rattle.crossing.specs.theory.Low.{low_fits, within-told}
use Rattle.crossing.specs.theory.High.{above}
use Rattle.calls.proofs.logs.cocklesway_log_contact.Goals as goal
use Rattle.calls.proofs.logs.cocklesway_log_contact.Goals.{Else-exceeds_floor}

-- past the test the floor is within its limit
low : (c : Else-exceeds_floor) → ltb max_floor c.args.floor ≡ false
low c = sym c.exceeds_floor.ensures ∙ c.if-exceeds_floor.false

pub returns : goal.returns
returns c =
    let from = ap₂ point (to_z-of_z {w = w32} c.ranges.x) (to_z-of_z {w = w32} c.ranges.y) in
    let to = ap₂ point (to_z-of_z {w = w32} c.ranges.u) (to_z-of_z {w = w32} c.ranges.v) in
    let cart = on c.args.cart.now c.args.floor in
    within-told _ (low (goal.at.returns c).Else-exceeds_floor) c.of.ensures
    (c.log_contact.ensures ∙ ap₂ (λ (t u : Point). reply (ask_drive c.args.log.now cart t u)) from to)

pub returns-then-exceeds_floor : goal.returns-then-exceeds_floor
returns-then-exceeds_floor c = (above _ (sym c.exceeds_floor.ensures ∙ c.if-exceeds_floor.true) c.barred.ensures).0

pub overflow_cast-floor : goal.overflow_cast-floor
overflow_cast-floor c = low_fits _ (low c)
