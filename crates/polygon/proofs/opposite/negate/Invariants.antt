use mathlib.Core.Path.{◌≡◌}
use mathlib.Core.List.{map}
use lib.IntN.{neg_ℤ}
use lib.ListN.{drop}
use lib.Seq.{paste}
use Rattle.polygon.proofs.opposite.negate.Given as goal

abbrev pub invariant-loop-i : goal.invariant-loop-i
invariant-loop-i l = l.out ≡ paste l.initial.out l.to (map neg_ℤ (drop l.from l.list)) l.i
