-- `span` meets its contract: sums and products of small parts fit 64 bits.
use Rattle.integer.specs.Machine.{machine, bounded, machine-is}
use Rattle.plane.specs.Direction.{value}
use Rattle.calipers.proofs.side.span.Goals as goal

pub returns : goal.returns
unfolding value
returns c = machine-is (search (machine, bounded) depth 40) tt
