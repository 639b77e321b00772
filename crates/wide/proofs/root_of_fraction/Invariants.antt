use Rattle.std.proofs.Common.{◌-◌}
use Rattle.wide.specs.theory.Bisection.{Between}
use Rattle.wide.proofs.root_of_fraction.Given as goal

abbrev pub invariant-loop-low : goal.invariant-loop-low
invariant-loop-low l = Between l.t l.q l.low l.high

abbrev pub decreases-loop-low : goal.decreases-loop-low
decreases-loop-low l = l.high - l.low
