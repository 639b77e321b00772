-- `cocklesway_sum_bytes` meets its contract, which is that of `combine`.
use Rattle.calls.proofs.bytes.cocklesway_sum_bytes.Goals as goal

pub returns : goal.returns
returns c = c.combine.ensures
