-- `closed` meets its contract: each of the three directions is that of the edge, turned.
use Rattle.boxes.proofs.Aim.{small-along, aimed-along, aimed-quarter, aimed-back, held-along, held-quarter, held_back}
use Rattle.boxes.proofs.jaws.closed.Goals as goal

pub edge_at-along-requires : goal.edge_at-along-requires
edge_at-along-requires c = (c.requires.valid, c.requires.edge_in)

pub quarter-requires : goal.quarter-requires
quarter-requires c = let pre = c.requires in small-along pre.valid pre.edge_in c.edge_at-along.ensures

pub furthest_from-high-requires : goal.furthest_from-high-requires
furthest_from-high-requires c =
    let pre = c.requires in
    aimed-quarter pre.valid pre.edge_in c.edge_at-along.ensures pre.three c.quarter.ensures pre.high-climbs

pub furthest_from-far-requires : goal.furthest_from-far-requires
furthest_from-far-requires c =
    let pre = c.requires in
    aimed-along pre.valid pre.edge_in c.edge_at-along.ensures pre.three pre.far-climbs

pub opposite-requires : goal.opposite-requires
opposite-requires c =
    let pre = c.requires in small-along pre.valid pre.edge_in c.edge_at-along.ensures

pub furthest_from-near-requires : goal.furthest_from-near-requires
furthest_from-near-requires c =
    let pre = c.requires in
    aimed-back pre.valid pre.edge_in c.edge_at-along.ensures pre.three c.opposite.ensures pre.near-climbs

pub returns : goal.returns
returns c =
    let pre = c.requires in
    let edge = c.edge_at-along.ensures in
    record {
      high-furthest = held-quarter pre.valid pre.edge_in edge c.quarter.ensures
          c.furthest_from-high.ensures;
      far-furthest = held-along pre.valid pre.edge_in edge c.furthest_from-far.ensures;
      near-furthest = held_back pre.valid pre.edge_in edge c.opposite.ensures c.furthest_from-near.ensures;
    }
