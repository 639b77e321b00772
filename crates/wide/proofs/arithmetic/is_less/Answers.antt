-- `is_less` meets its contract. The invariant: from word i on the numbers agree; the measure is i.
use Rattle.std.proofs.Common.{arith}
use Rattle.wide.specs.theory.Compare.{word-agrees, word-decides}
use Rattle.wide.proofs.arithmetic.is_less.Goals as goal

pub returns-then-a-i : goal.returns-then-a-i
returns-then-a-i c =
    let at = c.loop-i in
    word-decides _ _ at.i (omega arith) at.invariant.0 (omega arith) at.invariant.1
    (λ k. (c.shared_slice_known-then-a-i-1.given k).fits) (λ k. (c.shared_slice_known-then-a-i-2-1.given k).fits) c.if-a-i.true

pub loop-i-preserved : goal.loop-i-preserved
loop-i-preserved c =
    let at = c.loop-i in
    (omega arith, word-agrees _ _ at.i (omega arith) at.invariant.0 (omega arith) at.invariant.1 c.if-a-i.false)
