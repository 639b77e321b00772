-- `is_less` meets its contract: ratios compare as the fractions that they are.
use mathlib.Core.Path.{◌∙◌}
use Rattle.neighbours.specs.Spacing.{fraction_of}
use Rattle.neighbours.specs.theory.Spacings.{ratio-less, sized-whole}
use Rattle.neighbours.proofs.spacing.is_less.Goals as goal

pub returns : goal.returns
returns c =
    let args = c.args in
    let pre = c.requires in
    c.fraction_less.ensures ∙ ratio-less (fraction_of args.v) (fraction_of args.w) _ _ (sized-whole args.v pre.0)
    (sized-whole args.w pre.1) c.as_ratio-one.ensures c.as_ratio-other.ensures
