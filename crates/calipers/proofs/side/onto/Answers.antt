-- `onto` meets its contract: the edge to the next corner, short of the last.
use mathlib.Core.Path.{◌∙◌, ap}
use Prim.Native.Nat.{◌+◌, ◌≤◌, ◌<◌}
use native.Mathlib.Omega.{arith}
use lib.ListN.{length}
use Rattle.plane.specs.Point.{points, ◌⊖◌}
use Rattle.plane.specs.Cycle.{corner_round}
use Rattle.plane.proofs.theory.lists.Flat.{points-length}
use Rattle.plane.proofs.theory.sum.Positions.{edges-at-most}
use Rattle.polygon.specs.Point.{at}
use Rattle.polygon.specs.theory.Small.{small-corner}
use Rattle.calipers.specs.theory.Sides.{edge-inner, stands-fits, carried-to}
use Rattle.calipers.proofs.side.onto.Goals as goal
use Rattle.calipers.proofs.side.onto.Goals.{After-struct_known-then-s-1, Start}

-- a corner for each edge, at most
few : (c : Start) → c.args.s.at ≤ length (points c.args.list.now)
few c = omega (arith, c.requires.0.at_in, edges-at-most (points c.args.list.now))

pub overflow_add-s : goal.overflow_add-s
overflow_add-s c = omega (arith, few c.before, points-length c.args.list.now)

-- the next corner is there
ends : (c : After-struct_known-then-s-1) →
    c.args.s.at + 1 < length (points c.args.list.now)
ends c =
    omega (arith, c.if-s.true, c.requires.0.end_is, edges-at-most (points c.args.list.now))

pub corner_at-requires : goal.corner_at-requires
corner_at-requires c = ends c

pub facing-requires : goal.facing-requires
facing-requires c =
    let pre = c.requires in
    (stands-fits pre.1 pre.2 pre.0, small-corner _ pre.1 _ (ends c.before) c.corner_at.ensures)

pub returns-then-s : goal.returns-then-s
returns-then-s c =
    let stands = c.requires.0 in
    let ps = points c.args.list.now in (
      c.facing.ensures.0,
      carried-to (at c.corner_at.result) stands c.facing.ensures
          (ap (λ q. q ⊖ corner_round ps c.args.s.at) c.corner_at.ensures
          ∙ edge-inner ps _ _ stands.end_is c.if-s.true),
    )
