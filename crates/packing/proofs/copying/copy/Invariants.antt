use Rattle.std.specs.Prelude.{take, drop}
use Rattle.packing.specs.Copying.{Copied}
use Rattle.packing.proofs.copying.copy.Given as goal

abbrev pub invariant-loop-i : goal.invariant-loop-i
invariant-loop-i l = Copied l.allowed l.need l.initial.new l.q (take l.i (drop l.p l.old)) l.count l.new
