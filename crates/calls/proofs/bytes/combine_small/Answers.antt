-- `combine_small` meets its contract, which is that of `combine` with small buffers.
use Rattle.calls.specs.theory.Few.{small-enough}
use Rattle.calls.proofs.bytes.combine_small.Goals as goal

pub combine-requires : goal.combine-requires
combine-requires c =
    let small = c.requires in
    (small-enough _ small.0, small-enough _ small.1, λ n few k. k)
