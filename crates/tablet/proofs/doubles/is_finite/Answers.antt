-- `is_finite` meets its contract: between the infinities is what is finite.
use mathlib.Core.Path.{◌∙◌}
use lib.Ieee.{of_bits, neg, nan_bits}
use Rattle.tablet.proofs.theory.Tested.{finite-below, finite-not}
use Rattle.tablet.proofs.doubles.is_finite.Goals as goal

pub float_from_bits-infinity : goal.float_from_bits-infinity
unfolding nan_bits
float_from_bits-infinity c = tt

pub returns-then-v-infinity : goal.returns-then-v-infinity
unfolding of_bits neg
returns-then-v-infinity c = finite-below c.args.v c.if-v-infinity.true

pub returns-else-v-infinity : goal.returns-else-v-infinity
unfolding of_bits
returns-else-v-infinity c = c.if-v-infinity.false ∙ finite-not c.args.v c.if-v-infinity.false
