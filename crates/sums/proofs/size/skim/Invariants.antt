use mathlib.Core.Bool.{false}
use Prim.Native.Nat.{◌-◌}
use lib.ListN.{length}
use Rattle.sums.specs.Advance.{state, side_of, next_corners, Walked}
use Rattle.sums.proofs.size.skim.Given as goal

abbrev pub invariant-loop-c : goal.invariant-loop-c
invariant-loop-c l =
    Walked l.a l.b (state l.i l.j false) l.k l.count (side_of l.a l.first) (side_of l.b l.second)

abbrev pub decreases-loop-c : goal.decreases-loop-c
decreases-loop-c l = length (next_corners l.a l.b (state l.i l.j false) l.k) - l.count
