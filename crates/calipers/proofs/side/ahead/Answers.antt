-- `ahead` meets its contract: the next corner but one is there, so it is read without a test.
use mathlib.Core.Path.{◌≡◌, sym, ◌∙◌, ap}
use Prim.Native.Nat.{◌+◌, ◌<◌}
use native.Mathlib.Omega.{arith}
use lib.ListN.{length}
use Rattle.plane.specs.Point.{points, corner, ◌⊖◌}
use Rattle.plane.specs.Forms.{edges}
use Rattle.plane.specs.Cycle.{corner_round}
use Rattle.plane.proofs.theory.lists.Flat.{points-length}
use Rattle.plane.proofs.theory.sum.Positions.{edges-at-most}
use Rattle.polygon.specs.Point.{at}
use Rattle.polygon.specs.theory.Small.{small-corner}
use Rattle.calipers.specs.Side.{Stands}
use Rattle.calipers.specs.theory.Sides.{onward-inner, corner-fits, edge-adds, along-edge, edge-inner, stands-fits, carried-to}
use Rattle.calipers.proofs.side.ahead.Goals as goal
use Rattle.calipers.proofs.side.ahead.Goals.{After-arrived, After-struct_known-1, Else-waits}

-- three edges are left
left : (c : Else-waits) → c.args.s.at + 2 < length (edges (points c.args.list.now))
left c = omega (arith, c.requires.3, c.requires.0.end_is)

pub arrived-requires : goal.arrived-requires
arrived-requires c =
    let l = c.args.list.now in
    let pre = c.requires in (
      omega (arith, left c, edges-at-most (points l), points-length l),
      corner-fits pre.1 pre.2 pre.0,
      edge-adds pre.1 pre.2 pre.0,
    )

-- at the end of its edge
stands : (c : After-arrived) → Stands c.args.list.now c.arrived.result
stands c =
    let made = c.arrived.ensures in record {
      at_in = omega (arith, made.0, left c.before);
      end_is = made.1 ∙ c.requires.0.end_is;
      corner-is = made.2 ∙ along-edge c.requires.0 (omega (arith, left c.before))
          ∙ ap (corner_round (points c.args.list.now)) (sym made.0);
      no_edge = made.3;
    }

-- the corner to read
there : (c : After-struct_known-1) →
    c.args.s.at + 2 < length (points c.args.list.now)
there c = omega (arith, left c.before.before, edges-at-most (points c.args.list.now))

pub corner_at-requires : goal.corner_at-requires
corner_at-requires c = there c

pub facing-requires : goal.facing-requires
facing-requires c =
    let pre = c.requires in
    (stands-fits pre.1 pre.2 (stands c.before.before), small-corner _ pre.1 _ (there c.before) c.corner_at.ensures)

pub returns : goal.returns
returns c =
    let s = c.args.s in
    let m = c.arrived.result in
    let on = c.arrived.ensures.0 in
    let at_left = left c.before.before.before.before in
    let ps = points c.args.list.now in
    let next : s.at + 2 ≡ m.at + 1 = omega (arith, on) in (
      rw c.if-waits.false (c.facing.ensures.0 ∙ on ∙ sym (onward-inner ps s.at (omega (arith, at_left)))),
      carried-to (at c.corner_at.result) (stands c.before.before.before) c.facing.ensures
          (ap (λ q. q ⊖ corner_round ps m.at) (c.corner_at.ensures ∙ ap (corner ps) next)
          ∙ edge-inner ps _ _ (stands c.before.before.before).end_is (omega (arith, on, at_left, (stands c.before.before.before).end_is))),
    )
