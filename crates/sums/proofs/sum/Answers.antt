-- `sum` meets its contract: the walk from the beginning, which may write as many corners as the output has numbers.
use mathlib.Core.Path.{◌≡◌, ◌∙◌, ap}
use mathlib.Core.List.{List}
use native.Mathlib.Omega.{arith}
use lib.ListN.{length}
use Rattle.plane.specs.Point.{Point, points, numbers}
use Rattle.plane.specs.Corner.{shape_of, sums}
use Rattle.plane.specs.Output.{overwritten}
use Rattle.calipers.specs.Walk.{begun}
use Rattle.sums.specs.Advance.{next_corners}
use Rattle.calipers.specs.theory.Steps.{at-begin}
use Rattle.sums.specs.theory.Summed.{next-all, sum-some}
use Rattle.sums.proofs.sum.Goals as goal
use Rattle.sums.proofs.sum.Goals.{Start}

-- the next corners, as many as the output may hold, are the whole sum
whole : (c : Start) → let args = c.args in
    next_corners args.a.now args.b.now begun (length args.out.now)
    ≡ shape_of (sums (points args.a.now) (points args.b.now))
whole c = let pre = c.requires in next-all _ _ pre.0 pre.1 (length c.args.out.now) (omega (arith, pre.2))

pub walk_on-requires : goal.walk_on-requires
walk_on-requires c =
    let pre = c.requires in
    let some = sum-some c.args.a.now c.args.b.now pre.0 pre.1 in
    (at-begin _ _ pre.0 pre.1, omega (arith, some, pre.2), omega (arith, pre.2, ap length (whole c.before)))

pub returns : goal.returns
returns c =
    let went = c.walk_on.ensures in
    let all = whole c.before.before.before in
    (went.0.counted ∙ ap length all, went.1 ∙ ap (λ (ps : List Point). overwritten (numbers ps) c.args.out.now) all)
