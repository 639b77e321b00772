-- `survey` meets its contract: the pass, with a buffer of its own.
use native.Mathlib.Omega.{arith}
use Rattle.plane.specs.Limits.{max_corners}
use Rattle.journal.proofs.survey.survey.Goals as goal

pub pass-requires : goal.pass-requires
pass-requires c n l m = omega (arith, l, c.if-log-le-SHORT.true)

pub pass-requires-2 : goal.pass-requires-2
unfolding max_corners
pass-requires-2 c n l m = omega (arith, m)
