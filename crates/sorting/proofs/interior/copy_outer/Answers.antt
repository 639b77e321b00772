-- `copy_outer` meets its contract. The invariant: of the points before i those that are not inside are held.
use Rattle.std.proofs.Common.{◌∙◌, ap, arith, ℕ, ◌+◌, not}
use Rattle.plane.specs.Point.{points}
use Rattle.plane.proofs.theory.lists.Flat.{points-length}
use Rattle.sorting.specs.theory.Lengths.{added}
use Rattle.sorting.specs.theory.Interior.{sift-start, sift-room, sift-one, sift-end}
use Rattle.sorting.proofs.interior.copy_outer.Goals as goal

pub loop-i-init : goal.loop-i-init
loop-i-init c = sift-start c.args.inner (points c.args.list.now) c.requires

pub put-requires : goal.put-requires
put-requires c =
    let room = sift-room _ _ c.loop-i.invariant (omega arith) c.requires in omega (arith, points-length c.loop-i.buf)

pub loop-i-preserved : goal.loop-i-preserved
loop-i-preserved c =
    sift-one _ _ c.loop-i.invariant (omega arith) c.requires c.surrounds.result c.corner_at-p.ensures c.surrounds.ensures c.put.ensures
    (ap (λ (n : ℕ). c.loop-i.k + n) c.from-k.ensures ∙ added (not c.surrounds.result) c.loop-i.k)

pub returns : goal.returns
returns c = sift-end _ _ c.loop-i.invariant (omega arith)
