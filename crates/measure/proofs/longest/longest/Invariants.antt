use Prim.Native.Nat.{◌+◌, ◌-◌}
use Rattle.measure.specs.Partway.{Search}
use Rattle.measure.proofs.longest.longest.Given as goal

abbrev pub invariant-loop-s : goal.invariant-loop-s
invariant-loop-s l = Search l.list l.n l.top l.end l.s l.t l.best

abbrev pub decreases-loop-s : goal.decreases-loop-s
decreases-loop-s l = l.top + l.end - (l.s.at + l.t.at)
