-- `first` meets its contract: corner 1 is on the way up from the first edge, and the corner furthest from it on the way back.
use Rattle.plane.specs.Cut.{quarter}
use Rattle.plane.specs.Face.{Furthest}
use Rattle.plane.specs.Point.{points}
use Rattle.plane.proofs.theory.sum.Positions.{edge_of}
use Rattle.boxes.specs.theory.Held.{first-climbs, turned-back}
use Rattle.boxes.proofs.Aim.{small-along, aimed-along, aimed-quarter, aimed-back, held-along, held-quarter, held_back}
use Rattle.boxes.proofs.jaws.first.Goals as goal
use Rattle.boxes.proofs.jaws.first.Goals.{After-furthest_from-high}

pub edge_at-along-requires : goal.edge_at-along-requires
edge_at-along-requires c = (c.requires.0, c.requires.0.shape.some)

pub furthest_from-far-requires : goal.furthest_from-far-requires
furthest_from-far-requires c =
    let (v, three) = c.requires in
    aimed-along v v.shape.some c.edge_at-along.ensures three (first-climbs v.shape three).1

pub quarter-requires : goal.quarter-requires
quarter-requires c = let v = c.requires.0 in small-along v v.shape.some c.edge_at-along.ensures

pub furthest_from-high-requires : goal.furthest_from-high-requires
furthest_from-high-requires c =
    let (v, three) = c.requires in
    aimed-quarter v v.shape.some c.edge_at-along.ensures three c.quarter.ensures (first-climbs v.shape three).0

high : (c : After-furthest_from-high) → let args = c.args in let ps = points args.list.now in
    Furthest (quarter (edge_of ps 0)) ps c.furthest_from-high.result
high c =
    let v = c.requires.0 in
    held-quarter v v.shape.some c.edge_at-along.ensures c.quarter.ensures c.furthest_from-high.ensures

pub opposite-requires : goal.opposite-requires
opposite-requires c =
    let v = c.requires.0 in small-along v v.shape.some c.edge_at-along.ensures

pub furthest_from-near-requires : goal.furthest_from-near-requires
furthest_from-near-requires c =
    let (v, three) = c.requires in
    aimed-back v v.shape.some c.edge_at-along.ensures three c.opposite.ensures
    (turned-back v.shape three v.shape.some (high c.before))

pub returns : goal.returns
returns c =
    let v = c.requires.0 in
    record {
      high-furthest = high c.before.before;
      far-furthest = held-along v v.shape.some c.edge_at-along.ensures c.furthest_from-far.ensures;
      near-furthest = held_back v v.shape.some c.edge_at-along.ensures c.opposite.ensures c.furthest_from-near.ensures;
    }
