-- `is_short` meets its contract.
use mathlib.Core.Path.{◌∙◌}
use lib.Ieee.{of_bits, neg}
use Rattle.tablet.proofs.theory.Tested.{short-tested, short-low}
use Rattle.tablet.proofs.doubles.is_short.Goals as goal

pub returns-then-v : goal.returns-then-v
unfolding of_bits neg
returns-then-v c = short-tested c.args.v c.requires c.if-v.true

pub returns-else-v : goal.returns-else-v
unfolding of_bits neg
returns-else-v c = c.if-v.false ∙ short-low c.args.v c.requires c.if-v.false
