use Rattle.std.specs.Prelude.{take}
use Rattle.endian.specs.Bytes.{words}
use Rattle.journal.specs.Adding.{writes}
use Rattle.journal.specs.Allowance.{Ran}
use Rattle.storing.proofs.words.Given as goal

abbrev pub invariant-loop-i : goal.invariant-loop-i
invariant-loop-i l = Ran l.allowed (writes l.p (words (take l.i l.list))) l.initial.log l.left l.log
