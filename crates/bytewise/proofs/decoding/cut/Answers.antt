-- `cut` meets its contract. The limit is opened here, against the code's constant.
use mathlib.Core.Path.{refl}
use native.Mathlib.Omega.{arith}
use Rattle.plane.specs.Limits.{max_corners}
use Rattle.bytewise.proofs.decoding.cut.Goals as goal

pub returns-then-n-lt-NUMBERS : goal.returns-then-n-lt-NUMBERS
unfolding max_corners
returns-then-n-lt-NUMBERS c = record {
  within = omega arith;
  few = omega (arith, c.if-n-lt-NUMBERS.true);
  whole = λ h. refl;
  parity = refl;
}

pub returns : goal.returns
unfolding max_corners
returns c = record {
  within = omega (arith, c.if-n-lt-NUMBERS.false);
  few = omega arith;
  whole = λ h. omega (arith, h);
  parity = omega arith;
}
