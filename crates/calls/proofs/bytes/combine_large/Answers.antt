-- `combine_large` meets its contract, which is that of `combine` with buffers for all lists.
use native.Mathlib.Omega.{arith}
use Rattle.plane.specs.Limits.{max_corners}
use Rattle.calls.specs.theory.Few.{all-enough}
use Rattle.calls.proofs.bytes.combine_large.Goals as goal

pub combine-requires : goal.combine-requires
unfolding max_corners
combine-requires c = (all-enough _, all-enough _, λ n few k. omega (arith, few))
