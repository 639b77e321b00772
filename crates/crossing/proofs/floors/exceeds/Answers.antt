-- `exceeds` meets its contract, case by case.
use mathlib.Core.Path.{sym, ◌∙◌}
use Rattle.crossing.proofs.floors.exceeds.Goals as goal

pub returns-then-exceeds_floor : goal.returns-then-exceeds_floor
returns-then-exceeds_floor c = rw (sym c.exceeds_floor.ensures ∙ c.if-exceeds_floor.true) c.if-exceeds_floor.true

pub returns-else-exceeds_floor : goal.returns-else-exceeds_floor
returns-else-exceeds_floor c = rw (sym c.exceeds_floor.ensures ∙ c.if-exceeds_floor.false) c.exceeds_floor-else-exceeds_floor.ensures
