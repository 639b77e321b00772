-- `cocklesway_judge_bytes` meets its contract, which is that of `judge` with either buffer.
use mathlib.Core.Path.{sym, ◌∙◌}
use borrow.Author.Tests.{leb-true}
use Rattle.plane.specs.Limits.{max_corners}
use Rattle.bytewise.specs.Passing.{small_bytes}
use Rattle.calls.specs.theory.Few.{small-enough, all-enough}
use Rattle.calls.proofs.bytes.cocklesway_judge_bytes.Goals as goal

pub judge-requires : goal.judge-requires
judge-requires c = small-enough _ (leb-true _ small_bytes (sym c.is_small.ensures ∙ c.if-is_small.true))

pub judge-requires-2 : goal.judge-requires-2
unfolding max_corners
judge-requires-2 c = all-enough _
