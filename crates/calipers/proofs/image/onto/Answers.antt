-- `onto` meets its contract: the edge to the next corner on the way round, or none.
use mathlib.Core.Path.{refl, sym, ◌∙◌}
use Prim.Native.Nat.{◌+◌, ◌≤◌, ◌<◌}
use native.Mathlib.Omega.{arith}
use lib.ListN.{length}
use Rattle.plane.specs.Point.{points}
use Rattle.plane.specs.Forms.{edges}
use Rattle.plane.proofs.theory.sum.Positions.{edges-at-most}
use Rattle.polygon.specs.Point.{at}
use Rattle.calipers.specs.Image.{image}
use Rattle.calipers.specs.theory.Image.{image-count, image-valid, image-small, image-edge}
use Rattle.calipers.specs.theory.Sides.{edge_none, stands-fits, carried-to}
use Rattle.calipers.proofs.image.onto.Goals as goal
use Rattle.calipers.proofs.image.onto.Goals.{Else-s}

pub returns-then-s : goal.returns-then-s
returns-then-s c =
    let stands = c.requires.2 in (
      refl,
      record {
        at_in = stands.at_in;
        end_is = stands.end_is;
        corner-is = stands.corner-is;
        edge-is = stands.no_edge ∙ sym (edge_none (points (image c.args.list.now)) _ _ stands.end_is c.if-s.true);
      },
    )

-- an edge is left
left : (c : Else-s) →
    (c.args.s.at < length (edges (points (image c.args.list.now))))
    × (c.args.s.at + 1 ≤ length (points c.args.list.now))
left c =
    let l = c.args.list.now in
    let stands = c.requires.2 in
    let few = edges-at-most (points (image l)) in (
      omega (arith, c.if-s.false, stands.at_in, stands.end_is),
      omega (arith, c.if-s.false, stands.at_in, stands.end_is, image-count l c.requires.0),
    )

pub corner_at-requires : goal.corner_at-requires
corner_at-requires c = (c.requires.0, c.requires.1, (left c.before).1)

pub facing-requires : goal.facing-requires
facing-requires c =
    let v = image-valid _ c.requires.0 in (
      stands-fits v.in_range v.shape.some c.requires.2,
      image-small _ c.requires.0 _ (left c.before.before).1 c.corner_at.ensures,
    )

pub returns : goal.returns
returns c = (
  c.facing.ensures.0,
  carried-to (at c.corner_at.result) c.requires.2 c.facing.ensures
      (image-edge (points (image c.args.list.now)) _ (left c.before.before.before).0 c.corner_at.ensures),
)
