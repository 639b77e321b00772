-- `number` meets its contract: 0, or the cast, which takes a whole number of 31 bits that is not 0.
use Rattle.std.proofs.Common.{T, w32}
use lib.Ieee.{binary64, of_bits, in_signed}
use lib.Ieee.Casts.{to_signed_in}
use Rattle.integer.specs.Machine.{result-is}
use Rattle.tablet.proofs.theory.Tested.{castable, cast_is, zero_is}
use Rattle.tablet.proofs.doubles.number.Goals as goal
use Rattle.tablet.proofs.doubles.number.Goals.{Else-v}

taken : (c : Else-v) → T (in_signed binary64 31 c.args.v)
unfolding of_bits
taken c =
    let pre = c.requires in
    castable c.args.v pre.0 pre.1 pre.2 c.if-v.false

pub returns-then-v : goal.returns-then-v
unfolding of_bits
returns-then-v c = zero_is c.args.v c.requires.0 c.if-v.true

pub float_to_int-result : goal.float_to_int-result
float_to_int-result c = taken (goal.at.float_to_int-result c).Else-v

pub returns : goal.returns
returns c = result-is w32 (to_signed_in 31 c.args.v) (cast_is c.args.v (taken (goal.at.returns c).Else-v))
