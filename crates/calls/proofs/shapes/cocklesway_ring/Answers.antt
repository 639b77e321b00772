-- `cocklesway_ring` meets its contract: 13 for a floor above its limit, else the reply of `ring`, crossed, and its output.
use mathlib.Core.Path.{◌≡◌, sym, ◌∙◌}
use mathlib.Core.Bool.{false}
use lib.Dec.{ltb}
use Rattle.plane.specs.Limits.{max_floor}
use Rattle.plane.specs.Floor.{on}
use Rattle.crossing.specs.theory.Low.{low_fits}
use Rattle.crossing.specs.theory.Rings.{ring-within, ring-above}
use Rattle.calls.proofs.shapes.cocklesway_ring.Goals as goal
use Rattle.calls.proofs.shapes.cocklesway_ring.Goals.{Else-exceeds_floor}

-- past the test the floor is within its limit
low : (c : Else-exceeds_floor) → ltb max_floor c.args.floor ≡ false
low c = sym c.exceeds_floor.ensures ∙ c.if-exceeds_floor.false

pub returns-then-exceeds_floor : goal.returns-then-exceeds_floor
returns-then-exceeds_floor c =
    let args = c.args in
    ring-above (on args.list.now args.floor) args.out.now
    (sym c.exceeds_floor.ensures ∙ c.if-exceeds_floor.true) c.barred_ring.ensures

pub returns : goal.returns
returns c =
    let args = c.args in
    ring-within (on args.list.now args.floor) args.out.now (low c.before.before.before.before) c.of.ensures
    c.ring.ensures

pub overflow_cast-floor : goal.overflow_cast-floor
overflow_cast-floor c = low_fits _ (low c)
