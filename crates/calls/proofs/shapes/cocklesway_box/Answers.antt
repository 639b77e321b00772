-- `cocklesway_box` meets its contract: 13 for a floor above its limit, else the reply of `least_box`, crossed.
use mathlib.Core.Path.{◌≡◌, sym, ◌∙◌}
use mathlib.Core.Bool.{false}
use lib.Dec.{ltb}
use Rattle.plane.specs.Limits.{max_floor}
use Rattle.crossing.specs.theory.Low.{low_fits, within-told}
use Rattle.crossing.specs.theory.High.{above}
use Rattle.calls.proofs.shapes.cocklesway_box.Goals as goal
use Rattle.calls.proofs.shapes.cocklesway_box.Goals.{Else-exceeds_floor}

-- past the test the floor is within its limit
low : (c : Else-exceeds_floor) → ltb max_floor c.args.floor ≡ false
low c = sym c.exceeds_floor.ensures ∙ c.if-exceeds_floor.false

pub returns-then-exceeds_floor : goal.returns-then-exceeds_floor
returns-then-exceeds_floor c = (above _ (sym c.exceeds_floor.ensures ∙ c.if-exceeds_floor.true) c.barred.ensures).0

pub overflow_cast-floor : goal.overflow_cast-floor
overflow_cast-floor c = low_fits _ (low c)

pub returns : goal.returns
returns c = within-told _ (low c.before.before) c.of.ensures c.least_box.ensures
