-- `least_box` meets its contract. The invariant: the first of the least boxes on the edges measured.
use Prim.Native.Nat.{◌<◌}
use native.Mathlib.Omega.{arith}
use lib.ListN.{length}
use Rattle.plane.specs.Point.{points}
use Rattle.boxes.proofs.Walk.{walk_start, walk-closing, walk-next, walk-done}
use Rattle.boxes.proofs.least_box.Goals as goal
use Rattle.boxes.proofs.least_box.Goals.{In-loop-edge}

pub measured-best-requires : goal.measured-best-requires
measured-best-requires c =
    let pre = c.requires in record { valid = pre.0; edge_in = pre.0.shape.some; holds = c.first-at.ensures }

pub loop-edge-init : goal.loop-edge-init
loop-edge-init c =
    let pre = c.requires in
    walk_start pre.0 pre.1 c.first-at.ensures c.measured-best.ensures.0 c.measured-best.ensures.1

-- the edge that is measured next is one of the list
edge_in : (c : In-loop-edge) → c.loop-edge.edge < length (points c.args.list.now)
edge_in c = omega (arith, c.loop-edge-test.true, c.count-edge-end.ensures)

pub closed-at-requires : goal.closed-at-requires
closed-at-requires c = walk-closing c.loop-edge.invariant (edge_in c)

pub measured-requires : goal.measured-requires
measured-requires c =
    record { valid = c.loop-edge.invariant.valid; edge_in = edge_in c.before; holds = c.closed-at.ensures }

pub loop-edge-preserved : goal.loop-edge-preserved
loop-edge-preserved c =
    let found = c.measured.ensures in
    walk-next c.loop-edge.invariant (edge_in (goal.at.loop-edge-preserved c).In-loop-edge) c.closed-at.ensures found.0 found.1
    c.smaller-best.ensures

pub returns : goal.returns
returns c = walk-done c.loop-edge.invariant (omega (arith, c.loop-edge-test.false, c.count-edge-end.ensures))
