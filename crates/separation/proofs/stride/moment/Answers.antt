-- `moment` meets its contract: products of small parts, and their difference, fit 64 bits.
use Rattle.integer.specs.Machine.{machine, bounded, machine-fits, machine-is}
use Rattle.plane.specs.Turn.{cross}
use Rattle.separation.proofs.Widened.{widened}
use Rattle.separation.proofs.stride.moment.Goals as goal

pub overflow_mul-result : goal.overflow_mul-result
overflow_mul-result c = machine-fits (search (machine, bounded, widened) depth 40) tt

pub overflow_mul-result-2 : goal.overflow_mul-result-2
overflow_mul-result-2 c = machine-fits (search (machine, bounded, widened) depth 40) tt

pub overflow_sub-result : goal.overflow_sub-result
overflow_sub-result c = machine-fits (search (machine, bounded, widened) depth 40) tt

pub returns : goal.returns
unfolding cross
returns c = machine-is (search (machine, bounded, widened) depth 40) tt
