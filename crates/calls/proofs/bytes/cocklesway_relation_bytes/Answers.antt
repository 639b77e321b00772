-- `cocklesway_relation_bytes` meets its contract, which is that of `relation` with either two buffers.
use mathlib.Core.Path.{sym, ◌∙◌}
use Rattle.plane.specs.Limits.{max_corners}
use Rattle.calls.specs.theory.Few.{both_small, small-enough, all-enough}
use Rattle.calls.proofs.bytes.cocklesway_relation_bytes.Goals as goal

pub relation-requires : goal.relation-requires
relation-requires c =
    let small = both_small _ _ (sym c.are_small.ensures ∙ c.if-are_small.true) in
    (small-enough _ small.0, small-enough _ small.1)

pub relation-requires-2 : goal.relation-requires-2
unfolding max_corners
relation-requires-2 c = (all-enough _, all-enough _)
