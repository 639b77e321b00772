-- `grown_at` meets its contract: what is at the front of the output is the grown shape.
use Rattle.std.proofs.Common.{sym, subst}
use Rattle.plane.specs.Limits.{max_corners}
use Rattle.plane.specs.Refusal.{Valid}
use Rattle.polygon.specs.theory.Fronts.{front-points}
use Rattle.journal.proofs.theory.Stepping.{here-valid}
use Rattle.gaps.proofs.theory.Read.{grown_of-valid}
use Rattle.gaps.proofs.growing.grown_at.Goals as goal

pub grow_at-n-requires : goal.grow_at-n-requires
unfolding max_corners
grow_at-n-requires c = let pre = c.requires in (pre.0, pre.1, c.told-buffer, c.told-out, pre.2)

pub returns : goal.returns
returns c =
    let pre = c.requires in
    let front = c.grow_at-n.ensures.0 in
    (subst Valid (sym front.front) (grown_of-valid _ _ (here-valid pre.0) pre.1.shape.some pre.2), front-points front)
