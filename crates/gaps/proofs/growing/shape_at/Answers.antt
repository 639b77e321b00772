-- `shape_at` meets its contract: the buffer has room for any shape.
use Rattle.plane.specs.Limits.{max_corners}
use Rattle.gaps.proofs.growing.shape_at.Goals as goal

pub read_at-n-requires : goal.read_at-n-requires
unfolding max_corners
read_at-n-requires c = (c.requires, c.told-buffer)
