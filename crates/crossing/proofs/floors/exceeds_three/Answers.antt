-- `exceeds_three` meets its contract, case by case.
use mathlib.Core.Path.{sym, ◌∙◌}
use Rattle.crossing.proofs.floors.exceeds_three.Goals as goal

pub returns-then-exceeds : goal.returns-then-exceeds
returns-then-exceeds c = rw (sym c.exceeds.ensures ∙ c.if-exceeds.true) c.if-exceeds.true

pub returns-else-exceeds : goal.returns-else-exceeds
returns-else-exceeds c = rw (sym c.exceeds.ensures ∙ c.if-exceeds.false) c.exceeds_floor.ensures
