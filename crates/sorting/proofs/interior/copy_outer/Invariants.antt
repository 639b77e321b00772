use Rattle.plane.specs.Point.{points}
use Rattle.sorting.specs.theory.Interior.{Sifting}
use Rattle.sorting.proofs.interior.copy_outer.Given as goal

abbrev pub invariant-loop-i : goal.invariant-loop-i
invariant-loop-i l = Sifting l.inner (points l.list) l.initial.buf l.i l.k l.buf
