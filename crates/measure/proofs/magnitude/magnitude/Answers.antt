-- `magnitude` meets its contract: a number that is not negative is its own size.
use mathlib.Core.Path.{◌≡◌, sym}
use lib.Signed.{yes_non_neg, pos-nat_abs}
use mir.Syntax.{w64}
use mir.Val.{to_z, of_z}
use mir.Facts.{to_z-of_z, Fits-nat_abs}
use Rattle.measure.proofs.magnitude.magnitude.Goals as goal
use Rattle.measure.proofs.magnitude.magnitude.Goals.{Start}

-- the number, read back from its bits
back : (c : Start) → to_z w64 (of_z w64 c.args.z) ≡ c.args.z
back c = to_z-of_z {w = w64} c.ranges.z

pub overflow_cast-result : goal.overflow_cast-result
overflow_cast-result c = rw (back c) (yes_non_neg c.requires, Fits-nat_abs tt c.ranges.z)

pub returns : goal.returns
returns c = rw (back c) (sym (pos-nat_abs c.args.z (yes_non_neg c.requires)))
