-- `is_small` meets its contract. The limit is opened here, against the code's constant.
use mathlib.Core.Path.{refl}
use Rattle.bytewise.specs.Passing.{small_bytes}
use Rattle.bytewise.proofs.decoding.is_small.Goals as goal

pub returns : goal.returns
unfolding small_bytes
returns c = refl
