use Rattle.endian.specs.theory.Coded.{Encoded}
use Rattle.endian.proofs.encode.Given as goal

abbrev pub invariant-loop-i : goal.invariant-loop-i
invariant-loop-i l = Encoded l.initial.out l.list l.i l.out
