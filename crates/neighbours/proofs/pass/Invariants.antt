use mathlib.Core.Path.{◌≡◌}
use Prim.Native.Nat.{◌*◌}
use lib.ListN.{length}
use Rattle.plane.specs.Limits.{max_corners}
use Rattle.plane.specs.Point.{points}
use Rattle.journal.proofs.theory.Walk.{On}
use Rattle.neighbours.specs.theory.Search.{Searched}
use Rattle.neighbours.proofs.pass.Given as goal

abbrev pub invariant-loop-p : goal.invariant-loop-p
invariant-loop-p l =
    On l.log (λ p. Searched (points l.list) l.floor l.but l.log p l.best) l.p-iterator × (length l.buffer ≡ 2 * max_corners)
