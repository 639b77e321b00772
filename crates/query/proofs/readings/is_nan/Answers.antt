-- `is_nan` meets its contract: the exponent's field is all ones, and the digits' field is not 0.
use Rattle.std.proofs.Common.{arith}
use Rattle.std.proofs.lemmas.Bool.Decides.{nat_tests}
use Rattle.std.specs.Float.Ieee.{nan_bits}
use Rattle.query.proofs.readings.is_nan.Goals as goal

pub returns-then-bits-eq-ONES : goal.returns-then-bits-eq-ONES
unfolding nan_bits
returns-then-bits-eq-ONES c = grind (arith, nat_tests)

pub returns-else-bits-eq-ONES : goal.returns-else-bits-eq-ONES
unfolding nan_bits
returns-else-bits-eq-ONES c = grind (arith, nat_tests)
