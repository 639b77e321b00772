-- `above` meets its contract: one more than the root rounded down, unless that is exact.
use mathlib.Core.Path.{sym, ◌∙◌}
use native.Mathlib.Omega.{arith}
use Rattle.excess.proofs.theory.Rounded.{above-next, above-exact, above-le}
use Rattle.excess.proofs.rounding.above.Goals as goal

pub overflow_add-result : goal.overflow_add-result
overflow_add-result c =
    omega (
      arith,
      above-le _ _ c.requires.0 c.requires.1 (sym c.fraction_less.ensures ∙ c.if-fraction_less.true),
      c.ranges.turn,
    )

pub returns-then-fraction_less : goal.returns-then-fraction_less
returns-then-fraction_less c =
    above-next _ _ c.requires.0 c.requires.1 (sym c.fraction_less.ensures ∙ c.if-fraction_less.true)

pub returns : goal.returns
returns c =
    above-exact _ _ c.requires.0 c.requires.1 (sym c.fraction_less.ensures ∙ c.if-fraction_less.false)
