-- `encode` meets its contract. The invariant: i numbers are written.
use Rattle.std.proofs.Common.{arith, rules}
use Rattle.endian.specs.theory.Coded.{encoded-start, encoded-more, encoded-done}
use Rattle.endian.proofs.encode.Goals as goal

pub loop-i-init : goal.loop-i-init
loop-i-init c = encoded-start _ _

pub loop-i-preserved : goal.loop-i-preserved
loop-i-preserved c = rw c.put.ensures (encoded-more c.loop-i.invariant (omega arith) (omega arith) (search rules))

pub returns : goal.returns
returns c = encoded-done c.loop-i.invariant (omega arith) (omega arith)
