-- `are_small` meets its contract, case by case.
use mathlib.Core.Path.{sym, ◌∙◌}
use Rattle.bytewise.proofs.decoding.are_small.Goals as goal

pub returns-then-is_small : goal.returns-then-is_small
returns-then-is_small c = rw (sym c.is_small.ensures ∙ c.if-is_small.true) c.is_small-then-is_small.ensures

pub returns-else-is_small : goal.returns-else-is_small
returns-else-is_small c = rw (sym c.is_small.ensures ∙ c.if-is_small.false) c.if-is_small.false
