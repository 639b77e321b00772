use Rattle.std.specs.Prelude.{◌≤◌}
use Rattle.journal.proofs.theory.Storing.{Cleared}
use Rattle.storing.proofs.clear.Given as goal

abbrev pub invariant-loop-p : goal.invariant-loop-p
invariant-loop-p l = (l.from ≤ l.p) × Cleared l.allowed l.initial.log l.p l.left l.log
