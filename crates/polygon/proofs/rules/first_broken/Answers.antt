-- `first_broken` meets its contract: the pair, or the left rule.
use mathlib.Core.Path.{sym, ◌∙◌}
use Rattle.polygon.proofs.LeftRule.{broken-pair, broken-left}
use Rattle.polygon.proofs.rules.first_broken.Goals as goal

pub returns-then-equal_pair : goal.returns-then-equal_pair
returns-then-equal_pair c = broken-pair _ (sym c.equal_pair.ensures ∙ c.if-equal_pair.true)

pub returns : goal.returns
returns c = c.left_break.ensures ∙ broken-left _ (sym c.equal_pair.ensures ∙ c.if-equal_pair.false)
