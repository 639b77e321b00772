-- `searched` meets its contract. The invariant: the search is not past the tangent's end; the measure: the corners that are left.
use Prim.Native.Nat.{◌<◌}
use native.Mathlib.Omega.{arith}
use lib.ListN.{length}
use Rattle.plane.specs.Point.{points}
use Rattle.plane.proofs.theory.lists.Flat.{points-length}
use Rattle.tangents.specs.theory.TangentSearch.{search-start, search-below, ready-start, ready-end, both_rest, search-more}
use Rattle.tangents.proofs.searched.Goals as goal
use Rattle.tangents.proofs.searched.Goals.{At-loop-to}

pub loop-to-init : goal.loop-to-init
loop-to-init c = let pre = c.requires in search-start _ _ pre.0 pre.1 pre.2

-- the corner of the second shape
below : (c : At-loop-to) → c.loop-to.to < length (points c.args.b.now)
below c = let pre = c.requires in search-below _ _ pre.0 pre.1 pre.2 c.loop-to.invariant

pub corner_at-requires : goal.corner_at-requires
corner_at-requires c = below c

pub settle-from-requires : goal.settle-from-requires
settle-from-requires c =
    let pre = c.requires in
    ready-start c.args.s c.args.t pre.0 pre.1 pre.2 c.loop-to.invariant.start (below c.before)
    c.corner_at.ensures

pub corner_at-requires-in-loop-to : goal.corner_at-requires-in-loop-to
corner_at-requires-in-loop-to c = c.settle-from.ensures.within

pub better-requires : goal.better-requires
better-requires c =
    let pre = c.requires in
    ready-end _ c.args.t pre.0 pre.1 pre.2 c.loop-to.invariant.start (below c.before.before.before)
    c.corner_at.ensures c.settle-from.ensures
    c.corner_at-in-loop-to.ensures

pub returns-in_default : goal.returns-in_default
returns-in_default c =
    let pre = c.requires in
    both_rest _ _ pre.0 pre.1 pre.2 c.loop-to.invariant.start (below c.before.before.before.before.before)
    c.corner_at.ensures c.settle-from.ensures
    c.corner_at-in-loop-to.ensures c.in_default.ensures

pub overflow_add-to : goal.overflow_add-to
overflow_add-to c =
    omega (arith, below c.before.before.before.before.before, points-length c.args.b.now)

pub loop-to-smaller : goal.loop-to-smaller
loop-to-smaller c = omega (arith, below c.before.before.before.before.before)

pub loop-to-preserved : goal.loop-to-preserved
loop-to-preserved c =
    let pre = c.requires in
    search-more _ _ pre.0 pre.1 pre.2 c.loop-to.invariant.start (below c.before.before.before.before.before)
    c.corner_at.ensures c.settle-from.ensures
    c.corner_at-in-loop-to.ensures c.loop-to.invariant c.in-Some.ensures
