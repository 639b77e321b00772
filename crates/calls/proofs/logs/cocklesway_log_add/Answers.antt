-- `cocklesway_log_add` meets its contract: 13 for a floor above its limit, else the reply of `log_add`, crossed, and its log.
use mathlib.Core.Path.{◌≡◌, sym, ◌∙◌}
use mathlib.Core.Bool.{false}
use lib.Dec.{ltb}
use Rattle.plane.specs.Limits.{max_floor}
use Rattle.crossing.specs.theory.Low.{low_fits}
use Rattle.calls.specs.theory.Logs.{added-above, added-within}
use Rattle.calls.proofs.logs.cocklesway_log_add.Goals as goal
use Rattle.calls.proofs.logs.cocklesway_log_add.Goals.{Else-exceeds_floor}

-- past the test the floor is within its limit
low : (c : Else-exceeds_floor) → ltb max_floor c.args.f ≡ false
low c = sym c.exceeds_floor.ensures ∙ c.if-exceeds_floor.false

pub returns : goal.returns
returns c =
    added-within _ _ _ _ _ (low (goal.at.returns c).Else-exceeds_floor) c.of_addition.ensures
    c.log_add.ensures

pub returns-then-exceeds_floor : goal.returns-then-exceeds_floor
returns-then-exceeds_floor c = added-above _ _ _ _ _ (sym c.exceeds_floor.ensures ∙ c.if-exceeds_floor.true) c.barred.ensures

pub overflow_cast-f : goal.overflow_cast-f
overflow_cast-f c = low_fits _ (low (goal.at.overflow_cast-f c).Else-exceeds_floor)
