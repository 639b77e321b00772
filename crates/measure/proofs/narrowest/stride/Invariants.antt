use Prim.Native.Nat.{◌+◌, ◌-◌}
use Rattle.measure.specs.Partway.{Sweep}
use Rattle.measure.proofs.narrowest.stride.Given as goal

abbrev pub invariant-loop-best : goal.invariant-loop-best
invariant-loop-best l = Sweep l.list l.top l.end l.s l.t l.best

abbrev pub decreases-loop-best : goal.decreases-loop-best
decreases-loop-best l = l.top + l.end - (l.s.at + l.t.at)
