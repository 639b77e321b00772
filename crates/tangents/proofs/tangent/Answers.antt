-- `tangent` meets its contract. The invariant: the ends are corners of the two lists.
use mathlib.Core.Path.{subst}
use mathlib.Core.Bool.{not}
use Prim.Native.Nat.{ℕ}
use Rattle.plane.specs.Point.{points}
use Rattle.polygon.specs.Point.{at}
use Rattle.tangents.specs.Draws.{Rests}
use Rattle.tangents.specs.theory.TangentSearch.{ready-start, ready-end, both_rest}
use Rattle.tangents.proofs.tangent.Goals as goal

pub loop-init : goal.loop-init
loop-init c = let pre = c.requires in (pre.3, pre.4)

pub corner_at-requires : goal.corner_at-requires
corner_at-requires c = c.loop.invariant.1

pub settle-from-requires : goal.settle-from-requires
settle-from-requires c =
    let pre = c.requires in
    ready-start c.args.s c.args.t pre.0 pre.1 pre.2 c.loop.invariant.0 c.loop.invariant.1
    c.corner_at.ensures

pub corner_at-requires-in-loop : goal.corner_at-requires-in-loop
corner_at-requires-in-loop c = c.settle-from.ensures.within

pub settle-end-requires : goal.settle-end-requires
settle-end-requires c =
    let pre = c.requires in
    ready-end _ c.args.t pre.0 pre.1 pre.2 c.loop.invariant.0 c.loop.invariant.1
    c.corner_at.ensures c.settle-from.ensures c.corner_at-in-loop.ensures

pub returns-then-end-to : goal.returns-then-end-to
returns-then-end-to c =
    let pre = c.requires in
    let rest = subst (λ (k : ℕ). Rests (not c.args.t) (points c.args.b.now) k
    (at c.corner_at-in-loop.result)) c.if-end-to.true c.settle-end.ensures in
    both_rest _ _ pre.0 pre.1 pre.2 c.loop.invariant.0 c.loop.invariant.1
    c.corner_at.ensures c.settle-from.ensures c.corner_at-in-loop.ensures rest

pub loop-preserved : goal.loop-preserved
loop-preserved c = (c.settle-from.ensures.within, c.settle-end.ensures.within)

pub searched-requires : goal.searched-requires
searched-requires c = let pre = c.requires in (pre.0, pre.1, pre.2)

pub returns : goal.returns
returns c = c.searched.ensures
