use Prim.Native.Nat.{◌<◌}
use Rattle.sorting.proofs.interior.outermost.Given as goal

abbrev pub invariant-loop-i : goal.invariant-loop-i
invariant-loop-i l = (l.a.at < l.n) × (l.b.at < l.n) × (l.c.at < l.n) × (l.d.at < l.n)
