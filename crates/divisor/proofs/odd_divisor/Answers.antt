-- `odd_divisor` meets its contract. The invariant: both numbers are odd, and their divisor is the one sought; the measure is their sum.
use native.Mathlib.Omega.{arith}
use Rattle.divisor.specs.Halving.{halved-swap, next-less, halved-next, halved-end}
use Rattle.divisor.proofs.odd_divisor.Goals as goal

pub loop-x-init : goal.loop-x-init
loop-x-init c = record {
  left-odd = c.requires.odd.0;
  right-odd = c.requires.odd.1;
  left-fits = c.ranges.a.fits;
  right-fits = c.ranges.b.fits;
  same = λ g p. p;
}

pub loop-x-smaller-then-x-y : goal.loop-x-smaller-then-x-y
loop-x-smaller-then-x-y c =
    omega (arith, next-less c.loop-x.invariant c.if-x-y.true _ c.strip-y.ensures)

pub loop-x-preserved-then-x-y : goal.loop-x-preserved-then-x-y
loop-x-preserved-then-x-y c =
    halved-next c.loop-x.invariant c.if-x-y.true _ c.strip-y.ensures

pub loop-x-smaller : goal.loop-x-smaller
loop-x-smaller c =
    omega (arith, next-less (halved-swap c.loop-x.invariant) (omega arith) _ c.strip-x.ensures)

pub loop-x-preserved : goal.loop-x-preserved
loop-x-preserved c =
    halved-swap (halved-next (halved-swap c.loop-x.invariant) (omega arith) _ c.strip-x.ensures)

pub returns : goal.returns
returns c = halved-end c.loop-x.invariant c.loop-x-test.false
