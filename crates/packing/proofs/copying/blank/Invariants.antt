use Rattle.std.specs.Prelude.{◌-◌, replicate}
use Rattle.packing.specs.Copying.{Copied}
use Rattle.packing.proofs.copying.blank.Given as goal

abbrev pub invariant-loop-at : goal.invariant-loop-at
invariant-loop-at l = Copied l.allowed l.need l.initial.new l.q (replicate (l.at - l.q) 0) l.count l.new
