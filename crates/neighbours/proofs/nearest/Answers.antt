-- `nearest` meets its contract: the pass, with a buffer of its own.
use native.Mathlib.Omega.{arith}
use Rattle.plane.specs.Limits.{max_corners}
use Rattle.neighbours.proofs.nearest.Goals as goal

pub pass-requires : goal.pass-requires
unfolding max_corners
pass-requires c = (c.requires.0, c.requires.1, omega arith)
