-- `ahead` meets its contract: the next corner but one is there, so it is read without a test of the end.
use mathlib.Core.Path.{◌≡◌, sym, ◌∙◌, ap}
use Prim.Native.Nat.{◌+◌, ◌≤◌, ◌<◌}
use native.Mathlib.Omega.{arith}
use lib.ListN.{length}
use Rattle.plane.specs.Point.{points}
use Rattle.plane.specs.Forms.{edges}
use Rattle.plane.specs.Cycle.{corner_round}
use Rattle.plane.proofs.theory.lists.Flat.{points-length}
use Rattle.plane.proofs.theory.sum.Positions.{edges-at-most}
use Rattle.polygon.specs.Point.{at}
use Rattle.calipers.specs.Image.{image}
use Rattle.calipers.specs.Side.{Stands}
use Rattle.calipers.specs.theory.Image.{image-edges, image-valid, image-small, image-edge}
use Rattle.calipers.specs.theory.Sides.{onward-inner, corner-fits, edge-adds, along-edge, stands-fits, carried-to}
use Rattle.calipers.proofs.image.ahead.Goals as goal
use Rattle.calipers.proofs.image.ahead.Goals.{After-arrived, Else-waits}

-- three edges are left
left : (c : Else-waits) →
    (c.args.s.at + 2 < length (edges (points (image c.args.list.now))))
    × (c.args.s.at + 2 ≤ length (points c.args.list.now))
left c =
    let l = c.args.list.now in
    let few = edges-at-most (points l) in (
      omega (arith, c.requires.3, c.requires.2.end_is),
      omega (arith, c.requires.3, c.requires.2.end_is, image-edges l c.requires.0),
    )

pub arrived-requires : goal.arrived-requires
arrived-requires c =
    let l = c.args.list.now in
    let v = image-valid l c.requires.0 in (
      omega (arith, (left c).1, points-length l),
      corner-fits v.in_range v.shape.some c.requires.2,
      edge-adds v.in_range v.shape.some c.requires.2,
    )

-- at the end of its edge
stands : (c : After-arrived) → Stands (image c.args.list.now) c.arrived.result
stands c =
    let made = c.arrived.ensures in record {
      at_in = omega (arith, made.0, (left c.before).0);
      end_is = made.1 ∙ c.requires.2.end_is;
      corner-is = made.2 ∙ along-edge c.requires.2 (omega (arith, (left c.before).0))
          ∙ ap (corner_round (points (image c.args.list.now))) (sym made.0);
      no_edge = made.3;
    }

pub corner_at-requires : goal.corner_at-requires
corner_at-requires c =
    (c.requires.0, c.requires.1, (left c.before.before).1)

pub facing-requires : goal.facing-requires
facing-requires c =
    let v = image-valid _ c.requires.0 in (
      stands-fits v.in_range v.shape.some (stands c.before.before),
      image-small _ c.requires.0 _ (left c.before.before.before).1 c.corner_at.ensures,
    )

pub returns : goal.returns
returns c =
    let s = c.args.s in
    let m = c.arrived.result in
    let on = c.arrived.ensures.0 in
    let at_left = (left c.before.before.before.before).0 in
    let ps = points (image c.args.list.now) in
    let next : s.at + 2 ≡ m.at + 1 = omega (arith, on) in (
      rw c.if-waits.false (c.facing.ensures.0 ∙ on ∙ sym (onward-inner ps s.at (omega (arith, at_left)))),
      carried-to (at c.corner_at.result) (stands c.before.before.before) c.facing.ensures
          (image-edge ps _ (omega (arith, on, at_left)) (c.corner_at.ensures ∙ ap (corner_round ps) next)),
    )
