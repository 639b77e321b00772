use mathlib.Core.Bool.{false}
use mathlib.Core.List.{List}
use Prim.Native.Nat.{◌-◌}
use lib.IntN.{ℤ}
use lib.ListN.{length}
use Rattle.sums.specs.Advance.{state, next_corners}
use Rattle.sums.proofs.Progress.{Progress}
use Rattle.sums.proofs.walk.walk_round.Given as goal

abbrev pub invariant-loop-s : goal.invariant-loop-s
invariant-loop-s g l =
    (old : List ℤ) → Progress l.a (g.R.Round.shape l.b) old
    (state l.i l.j false) l.k l.initial.count l.initial.s l.initial.t l.initial.out → Progress l.a (g.R.Round.shape l.b)
    old (state l.i l.j false) l.k l.count l.s l.t l.out

abbrev pub decreases-loop-s : goal.decreases-loop-s
decreases-loop-s g l = length (next_corners l.a (g.R.Round.shape l.b) (state l.i l.j false) l.k) - l.count
