-- `combine` meets its contract, which is that of the one that it calls.
use mathlib.Core.Path.{sym, ◌∙◌}
use Rattle.calls.specs.theory.Few.{both_small}
use Rattle.calls.proofs.bytes.combine.Goals as goal

pub combine_small-requires : goal.combine_small-requires
combine_small-requires c = both_small _ _ (sym c.are_small.ensures ∙ c.if-are_small.true)
