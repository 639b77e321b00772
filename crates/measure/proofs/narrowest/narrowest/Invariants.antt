use Prim.Native.Nat.{◌+◌, ◌-◌}
use Rattle.measure.specs.Partway.{Sweep}
use Rattle.measure.proofs.narrowest.narrowest.Given as goal

abbrev pub invariant-loop-s : goal.invariant-loop-s
invariant-loop-s l = Sweep l.list l.top l.end l.s l.t l.best

abbrev pub decreases-loop-s : goal.decreases-loop-s
decreases-loop-s l = l.top + l.end - (l.s.at + l.t.at)
