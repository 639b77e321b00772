-- `root_of_fraction` meets its contract. The invariant: low is reached and high + 1 is not; the measure is what lies between. Of the
-- number that is tried it is only known that it lies between.
use Rattle.std.proofs.Common.{sym, ◌∙◌, arith}
use Rattle.wide.specs.theory.Bisection.{between-down, between-up}
use Rattle.wide.proofs.root_of_fraction.Goals as goal

pub loop-low-preserved-then-fraction_less : goal.loop-low-preserved-then-fraction_less
loop-low-preserved-then-fraction_less c =
    between-down _ c.loop-low.invariant (omega arith) (sym c.fraction_less.ensures ∙ c.if-fraction_less.true)

pub loop-low-preserved : goal.loop-low-preserved
loop-low-preserved c =
    between-up _ c.loop-low.invariant (omega arith) (sym c.fraction_less.ensures ∙ c.if-fraction_less.false)
