use Rattle.std.proofs.Common.{◌≡◌, ◌≤◌, length, drop}
use Rattle.wide.specs.Value.{value}
use Rattle.wide.proofs.arithmetic.is_less.Given as goal

abbrev pub invariant-loop-i : goal.invariant-loop-i
invariant-loop-i l = (l.i ≤ length l.a) × (value (drop l.i l.a) ≡ value (drop l.i l.b))
