use mathlib.Core.Path.{◌≡◌}
use Prim.Native.Nat.{◌≤◌}
use lib.IntN.{pos}
use lib.ListN.{length, get_or}
use Rattle.plane.specs.Search.{some}
use Rattle.plane.specs.Refusal.{outside}
use Rattle.polygon.proofs.rules.some_outside.Given as goal

abbrev pub invariant-loop-z : goal.invariant-loop-z
invariant-loop-z l = (l.z-index ≤ length l.list) × (l.some ≡ some (λ k. outside (get_or l.list k (pos 0))) l.z-index)
