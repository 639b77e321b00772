use Rattle.plane.proofs.theory.lists.Filled.{Filled}
use Rattle.endian.specs.Bytes.{words_at}
use Rattle.endian.proofs.decode.Given as goal

abbrev pub invariant-loop-i : goal.invariant-loop-i
invariant-loop-i l = Filled l.initial.out (words_at l.n l.bytes l.p) l.i l.out
