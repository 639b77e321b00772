-- `scale` meets its contract. The invariant: the first i words and the carry make w times the first i words of a.
use Rattle.std.proofs.Common.{arith}
use Rattle.wide.specs.theory.Carry.{scaling-start, scaling-more, scaling-end}
use Rattle.wide.proofs.arithmetic.scale.Goals as goal

pub loop-i-init : goal.loop-i-init
loop-i-init c = scaling-start c.requires.room

pub loop-i-preserved : goal.loop-i-preserved
loop-i-preserved c = scaling-more _ _ c.loop-i.invariant (omega arith) c.carrying_mul.ensures

pub returns : goal.returns
returns c = scaling-end c.loop-i.invariant (omega (arith, c.loop-i.invariant.within))
