use mathlib.Core.Bool.{false}
use Prim.Native.Nat.{◌-◌}
use lib.ListN.{length}
use Rattle.sums.specs.Advance.{state, next_corners, Walked}
use Rattle.sums.proofs.size.count_on.Given as goal

abbrev pub invariant-loop-s : goal.invariant-loop-s
invariant-loop-s l = Walked l.a l.b (state l.i l.j false) l.k l.count l.s l.t

abbrev pub decreases-loop-s : goal.decreases-loop-s
decreases-loop-s l = length (next_corners l.a l.b (state l.i l.j false) l.k) - l.count
