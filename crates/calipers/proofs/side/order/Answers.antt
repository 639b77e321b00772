-- `order` meets its contract: products of small parts, and their difference, fit 64 bits.
use Rattle.plane.specs.Turn.{cross}
use Rattle.integer.specs.Machine.{machine, bounded, machine-fits, machine-is}
use Rattle.calipers.proofs.side.order.Goals as goal

pub overflow_sub-result : goal.overflow_sub-result
overflow_sub-result c = machine-fits (search (machine, bounded) depth 40) tt

pub returns : goal.returns
unfolding cross
returns c = machine-is (search (machine, bounded) depth 40) tt
