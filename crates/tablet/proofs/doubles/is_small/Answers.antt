-- `is_small` meets its contract.
use mathlib.Core.Path.{sym, ◌∙◌}
use Rattle.std.proofs.Common.{true≢false}
use lib.Ieee.{of_bits, neg}
use Rattle.tablet.proofs.theory.Tested.{small-tested, small-high, small_low}
use Rattle.tablet.proofs.doubles.is_small.Goals as goal
use Rattle.tablet.proofs.doubles.is_small.Goals.{then-v, else-v}

pub returns-then-v-2 : goal.returns-then-v-2
unfolding of_bits neg
returns-then-v-2 c = elim c.if-v.branch [
  | then-v w ↦ small-tested c.args.v w.if-v.true (sym w.value-is ∙ c.if-v-2.true)
  | else-v w ↦ absurd (true≢false (sym c.if-v-2.true ∙ w.value-is ∙ w.if-v.false))
]

pub returns-else-v-2 : goal.returns-else-v-2
unfolding of_bits neg
returns-else-v-2 c = elim c.if-v.branch [
  | then-v w ↦ c.if-v-2.false ∙ small-high c.args.v w.if-v.true (sym w.value-is ∙ c.if-v-2.false)
  | else-v w ↦ c.if-v-2.false ∙ small_low c.args.v w.if-v.false
]
