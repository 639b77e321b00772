use mathlib.Core.Bool.{false}
use Prim.Native.Nat.{◌-◌}
use lib.ListN.{length}
use Rattle.calipers.specs.Side.{walk_of}
use Rattle.sums.specs.Advance.{next_corners}
use Rattle.sums.proofs.Progress.{Progress}
use Rattle.sums.proofs.walk.stride.Given as goal

abbrev pub invariant-loop-out : goal.invariant-loop-out
invariant-loop-out g l =
    Progress l.a (g.R.Round.shape l.b) l.initial.out (walk_of l.initial.first l.initial.second false) l.k l.count l.first l.second l.out

abbrev pub decreases-loop-out : goal.decreases-loop-out
decreases-loop-out g l = length (next_corners l.a (g.R.Round.shape l.b) (walk_of l.initial.first l.initial.second false) l.k) - l.count
