-- `left_break` meets its contract. The invariants: nothing was found, at no edge before this one, and at this edge at no corner before
-- this one.
use mathlib.Core.Path.{sym, ◌∙◌}
use Prim.Native.Nat.{◌<◌}
use native.Mathlib.Omega.{arith}
use lib.ListN.{length}
use Rattle.plane.specs.Point.{points}
use Rattle.plane.specs.Refusal.{left_broken, breaking_edge}
use Rattle.plane.proofs.theory.lists.Sought.{sought-more, sought-found, sought-yes, sought-no}
use Rattle.polygon.proofs.LeftRule.{left-break-at, left-break-nowhere}
use Rattle.polygon.proofs.rules.left_break.Goals as goal
use Rattle.polygon.proofs.rules.left_break.Goals.{In-edges, In-loop-corner}

-- the loops' tests, said of the corners
edge-below : (c : In-edges)
    → c.edges.edge < length (points c.args.list.now)
edge-below c = omega (arith, c.count-n.ensures)

corner-below : (c : In-loop-corner)
    → c.loop-corner.corner < length (points c.args.list.now)
corner-below c = omega (arith, c.count-n.ensures)

pub loop-corner-preserved : goal.loop-corner-preserved
loop-corner-preserved c = (
  c.loop-corner.invariant.0,
  sought-more _ _ c.loop-corner.corner c.loop-corner.invariant.1 (corner-below c.before.before)
      (sym c.breaks_at.ensures ∙ c.if-breaks_at.false),
)

pub edges-preserved : goal.edges-preserved
edges-preserved c = (
  c.loop-corner.invariant.0,
  sought-more _ _ c.edges.edge c.edges.invariant.1 (edge-below c.before.before)
      (sought-no _ _ c.loop-corner.corner c.loop-corner.invariant.1 (omega (arith, c.count-n.ensures))),
)

pub returns-after-edges : goal.returns-after-edges
unfolding left_broken
returns-after-edges c =
    c.edges.invariant.0
    ∙ left-break-nowhere (points c.args.list.now)
    (sought-no _ _ c.edges.edge c.edges.invariant.1 (omega (arith, c.count-n.ensures)))

pub returns-then-breaks_at : goal.returns-then-breaks_at
unfolding left_broken breaking_edge
returns-then-breaks_at c =
    let here = sym c.breaks_at.ensures ∙ c.if-breaks_at.true in
    let corner-in = corner-below c.before.before in
    let edge_in = edge-below c.before.before.before.before in
    let at_edge = sought-yes _ _ c.loop-corner.corner corner-in here in
    left-break-at (points c.args.list.now) c.edges.edge c.loop-corner.corner
    (sought-yes _ _ c.edges.edge edge_in at_edge)
    (sought-found _ _ c.edges.edge c.edges.invariant.1 edge_in at_edge)
    (sought-found _ _ c.loop-corner.corner c.loop-corner.invariant.1 corner-in here)
