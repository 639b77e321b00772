-- `pair_at` meets its contract: two bytes, the lower first.
use Rattle.std.proofs.Common.{arith, ◌≡◌, ◌+◌}
use Rattle.endian.specs.Bytes.{pair_at}
use Rattle.endian.proofs.pair_at.Goals as goal

pub returns : goal.returns
unfolding pair_at
returns c = let next : c.args.p + 1 ≡ 1 + c.args.p = omega arith in let read = rw next at c.from_le_bytes.ensures in (
  omega arith,
  omega arith,
)
