-- `late` meets its contract.
use mathlib.Core.Path.{sym, ◌∙◌, ap}
use Prim.Native.Nat.{◌<◌}
use native.Mathlib.Omega.{arith}
use lib.ListN.{length}
use Rattle.plane.specs.Point.{points}
use Rattle.plane.specs.Forms.{edges}
use Rattle.plane.specs.Cycle.{corner_round}
use Rattle.plane.proofs.theory.lists.Flat.{points-length}
use Rattle.plane.proofs.theory.sum.Positions.{edges-at-most}
use Rattle.calipers.specs.Image.{image}
use Rattle.calipers.specs.theory.Image.{image-edges, image-valid}
use Rattle.calipers.specs.theory.Sides.{onward-end, onward-inner, corner-fits, edge-adds, along-edge}
use Rattle.calipers.proofs.image.late.Goals as goal
use Rattle.calipers.proofs.image.late.Goals.{Else-s}

pub returns-then-s : goal.returns-then-s
returns-then-s c =
    let side = c.requires.2 in (
      sym (onward-end (points (image c.args.list.now)) c.args.s.at (omega (arith, c.if-s.true, side.end_is))),
      side,
    )

-- an edge is left
left : (c : Else-s) →
    c.args.s.at < length (edges (points (image c.args.list.now)))
left c = let side = c.requires.2 in omega (arith, c.if-s.false, side.end_is, side.at_in)

pub arrived-requires : goal.arrived-requires
arrived-requires c =
    let l = c.args.list.now in
    let v = image-valid l c.requires.0 in
    let few = edges-at-most (points l) in (
      omega (arith, left c, image-edges l c.requires.0, points-length l),
      corner-fits v.in_range v.shape.some c.requires.2,
      edge-adds v.in_range v.shape.some c.requires.2,
    )

pub onto-requires : goal.onto-requires
onto-requires c =
    let made = c.arrived.ensures in (
      c.requires.0,
      c.requires.1,
      record {
        at_in = omega (arith, made.0, left c.before);
        end_is = made.1 ∙ c.requires.2.end_is;
        corner-is = made.2 ∙ along-edge c.requires.2 (left c.before)
            ∙ ap (corner_round (points (image c.args.list.now))) (sym made.0);
        no_edge = made.3;
      },
    )

pub returns : goal.returns
returns c = (
  c.onto.ensures.0 ∙ c.arrived.ensures.0
      ∙ sym (onward-inner (points (image c.args.list.now)) c.args.s.at (left c.before.before)),
  c.onto.ensures.1,
)
